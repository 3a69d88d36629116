-- What is said at the end of a session.
use Rattle.std.proofs.Common.{◌≡◌, ◌≤◌, ℕ, zero, suc, Bool, true, false, min, List, [], ◌∷◌, length, take, Some, None, Ok, Err, sym, subst, if◌then◌else◌, arith}
use Rattle.std.proofs.lemmas.List.{length-take}
use Rattle.std.specs.Prelude.{⊤}
use Rattle.rs_open.specs.Notes.{data_count}
use Rattle.rs_octets.specs.declared.heads.HeaderFault.{HeaderFault}
use Rattle.rs_octets.specs.declared.heads.HeaderFault.TheVariants as header
use Rattle.rs_open.specs.declared.open.OpenFault.{OpenFault}
use Rattle.rs_open.specs.declared.open.OpenFault.TheVariants as fault
use Rattle.rs_open.specs.declared.short.Short.{Short}
use Rattle.rs_open.specs.declared.short.Short.TheVariants as short
use Rattle.rs_session.specs.declared.command.Command.{Command}
use Rattle.rs_session.specs.declared.command.Command.TheVariants as commands
use Rattle.rs_session.specs.declared.heard.Heard.{Heard}
use Rattle.rs_session.specs.declared.heard.Heard.TheVariants as heard
use Rattle.rs_session.specs.declared.act.Act.{Act}
use Rattle.rs_session.specs.declared.act.Act.TheVariants as acts
use Rattle.rs_session.specs.declared.settings.Settings.{Settings}
use Rattle.rs_session.specs.declared.session.Session.{Session}
use Rattle.rs_session.specs.declared.phase.Phase.{Phase}
use Rattle.rs_session.specs.declared.phase.Phase.TheVariants as phases
use Rattle.rs_session.specs.declared.phase.Peer.{Peer}
use Rattle.rs_session.specs.Items.{Item, Came, Message, Moment, Commanded, Left, greatest, hold_timer_since, message_count, open_heard}
use Rattle.rs_session.specs.Endings.{Fate, GoesOn, Ends, IsBrief, IsBriefEnd, header_note, is_from_as, bad_peer_as, open_note, unexpected, first_fate, second_fate, later_fate, message_fate, open_wait, hold_time, is_past, expired, moment_fate, command_fate}
use Rattle.rs_session.specs.Sessions.{fate, earlier, is_request, SaysBriefly}
use Rattle.rs_session.specs.Steps.{step, second_step, later_step, message_step, moment_step, obey, command_step}
use Rattle.rs_session.specs.Laws.{EndsBriefly}

-- an end of an item
abbrev IsBriefFate : Fate → Type 0
IsBriefFate GoesOn = ⊤
IsBriefFate (Ends said) = IsBriefEnd said

-- ---- the NOTIFICATIONs

bad_peer_as_brief : IsBrief bad_peer_as
bad_peer_as_brief = omega arith

unexpected_brief : IsBrief unexpected
unexpected_brief = omega arith

header_brief : (f : HeaderFault) → IsBrief (header_note f)
header_brief header.Marker = omega arith
header_brief (header.Length length) = omega arith
header_brief (header.Kind kind) = omega arith

either_brief : (b : Bool) (x y : Short) → IsBrief x → IsBrief y → IsBrief (if b then x else y)
either_brief false x y p q = q
either_brief true x y p q = p

open_brief : (peer_as : ℕ) (f : OpenFault) → IsBrief (open_note peer_as f)
open_brief peer_as fault.Version = omega arith
open_brief peer_as fault.Malformed = omega arith
open_brief peer_as fault.Parameter = omega arith
open_brief peer_as (fault.Hold my_as four) =
    either_brief (is_from_as peer_as my_as four) _ bad_peer_as (omega arith) bad_peer_as_brief
open_brief peer_as (fault.Identifier my_as four) =
    either_brief (is_from_as peer_as my_as four) _ bad_peer_as (omega arith) bad_peer_as_brief

-- ---- the fate that an item brings

unless_brief : (b : Bool) (said : Short) → IsBrief said → IsBriefFate (if b then GoesOn else Ends (Some said))
unless_brief false said p = p
unless_brief true said p = tt

where_brief : (b : Bool) (said : Short) → IsBrief said → IsBriefFate (if b then Ends (Some said) else GoesOn)
where_brief false said p = tt
where_brief true said p = p

first_brief : (peer_as : ℕ) (m : Heard) → IsBriefFate (first_fate peer_as m)
first_brief peer_as (heard.Header f) = header_brief f
first_brief peer_as heard.Note = tt
first_brief peer_as (heard.Open (Ok sent)) =
    unless_brief (is_from_as peer_as sent.my_as sent.four) bad_peer_as bad_peer_as_brief
first_brief peer_as (heard.Open (Err f)) = open_brief peer_as f
first_brief peer_as (heard.Update reset) = unexpected_brief
first_brief peer_as (heard.Refresh afi safi) = unexpected_brief
first_brief peer_as heard.Keepalive = unexpected_brief

second_brief : (m : Heard) → IsBriefFate (second_fate m)
second_brief (heard.Header f) = header_brief f
second_brief heard.Note = tt
second_brief (heard.Open read) = unexpected_brief
second_brief (heard.Update reset) = unexpected_brief
second_brief (heard.Refresh afi safi) = unexpected_brief
second_brief heard.Keepalive = tt

later_brief : (m : Heard) → IsBriefFate (later_fate m)
later_brief (heard.Header f) = header_brief f
later_brief heard.Note = tt
later_brief (heard.Open read) = unexpected_brief
later_brief (heard.Update None) = tt
later_brief (heard.Update (Some reset)) = omega arith
later_brief (heard.Refresh afi safi) = tt
later_brief heard.Keepalive = tt

message_brief : (peer_as count : ℕ) (m : Heard) → IsBriefFate (message_fate peer_as count m)
message_brief peer_as zero m = first_brief peer_as m
message_brief peer_as (suc zero) m = second_brief m
message_brief peer_as (suc (suc count)) m = later_brief m

moment_brief : (time since now : ℕ) → IsBriefFate (moment_fate time since now)
moment_brief time since now = where_brief (is_past time since now) expired (omega arith)

-- a length octet and a text of 128 octets at most
text_brief : (n : ℕ) (octets : List ℕ) → n ≤ 128 → length (take (data_count n) (n ∷ octets)) ≤ 129
text_brief zero octets le = omega arith
text_brief (suc n) octets le = omega (arith, length-take (suc n) octets)

command_brief : (command : Command) → IsBriefFate (command_fate command)
command_brief (commands.Stop text) = text_brief (min text.count 128) text.octets (omega arith)
command_brief commands.Refresh = tt

-- ---- the end

earlier_brief : (f g : Fate) → IsBriefFate f → IsBriefFate g → IsBriefFate (earlier f g)
earlier_brief GoesOn g p q = q
earlier_brief (Ends said) g p q = p

fate_brief : (s : Settings) (items : List Item) → IsBriefFate (fate s items)
fate_brief s [] = tt
fate_brief s (Came ∷ items) = tt
fate_brief s (Message m ∷ items) =
    earlier_brief (fate s items) _ (fate_brief s items) (message_brief s.peer_as (message_count items) m)
fate_brief s (Moment t ∷ items) =
    earlier_brief (fate s items) _ (fate_brief s items)
    (moment_brief (hold_time s.hold (open_heard items)) (hold_timer_since items) (greatest (Moment t ∷ items)))
fate_brief s (Commanded command ∷ items) = earlier_brief (fate s items) _ (fate_brief s items) (command_brief command)
fate_brief s (Left ∷ items) = tt

pub ends_briefly : EndsBriefly
ends_briefly s items said e = subst IsBriefFate e (fate_brief s items)

-- ---- what the code answers

step_says : (f : Fate) (phase : Phase) (act : Act) → IsBriefFate f → SaysBriefly act
    → SaysBriefly (step f phase act).1
step_says GoesOn phase act p q = q
step_says (Ends said) phase act p q = p

request_says : (b : Bool) → SaysBriefly (if b then acts.Again else acts.None)
request_says false = tt
request_says true = tt

keepalive_says : (b : Bool) → SaysBriefly (if b then acts.Say short.Keepalive else acts.None)
keepalive_says false = tt
keepalive_says true = tt

agreed_says : (b : Bool) (peer : Peer) (now : ℕ) (m : Heard)
    → SaysBriefly (if b then later_step peer now m else second_step peer now m).1
agreed_says false peer now m = step_says (second_fate m) _ acts.Up (second_brief m) tt
agreed_says true peer now m = step_says (later_fate m) _ _ (later_brief m) (request_says (is_request m))

message_step_says : (phase : Phase) (peer_as now : ℕ) (m : Heard)
    → SaysBriefly (message_step phase peer_as now m).1
message_step_says phases.Idle peer_as now m = tt
message_step_says (phases.OpenSent since) peer_as now m =
    step_says (first_fate peer_as m) _ (acts.Say short.Keepalive) (first_brief peer_as m) tt
message_step_says (phases.Agreed peer) peer_as now m = agreed_says peer.confirmed peer now m
message_step_says phases.Closing peer_as now m = tt

moment_step_says : (phase : Phase) (hold now : ℕ) → SaysBriefly (moment_step phase hold now).1
moment_step_says phases.Idle hold now = tt
moment_step_says (phases.OpenSent since) hold now =
    step_says (moment_fate open_wait since now) _ acts.None (moment_brief open_wait since now) tt
moment_step_says (phases.Agreed peer) hold now =
    step_says (moment_fate (min hold peer.sent.hold) peer.hold_timer_since now) _ _
    (moment_brief _ peer.hold_timer_since now) (keepalive_says _)
moment_step_says phases.Closing hold now = tt

pub message_says : (old new : Session) (m : Heard) (act : Act)
    → ◌≡◌ {A = Phase × Act} (new.phase, act) (message_step old.phase old.settings.peer_as old.latest m)
    → SaysBriefly act
message_says old new m act e =
    subst (λ (x : Phase × Act). SaysBriefly x.1) (sym e) (message_step_says old.phase old.settings.peer_as old.latest m)

pub moment_says : (old new : Session) (act : Act)
    → ◌≡◌ {A = Phase × Act} (new.phase, act) (moment_step old.phase old.settings.hold new.latest)
    → SaysBriefly act
moment_says old new act e =
    subst (λ (x : Phase × Act). SaysBriefly x.1) (sym e) (moment_step_says old.phase old.settings.hold new.latest)

obey_says : (phase : Phase) (established : Bool) (command : Command) → SaysBriefly (obey phase established command).1
obey_says phase established command = step_says (command_fate command) phase _ (command_brief command) (request_says established)

command_step_says : (phase : Phase) (command : Command) → SaysBriefly (command_step phase command).1
command_step_says phases.Idle command = tt
command_step_says (phases.OpenSent since) command = obey_says (phases.OpenSent since) false command
command_step_says (phases.Agreed peer) command = obey_says (phases.Agreed peer) peer.confirmed command
command_step_says phases.Closing command = tt

pub command_says : (old new : Session) (command : Command) (act : Act)
    → ◌≡◌ {A = Phase × Act} (new.phase, act) (command_step old.phase command) → SaysBriefly act
command_says old new command act e = subst (λ (x : Phase × Act). SaysBriefly x.1) (sym e) (command_step_says old.phase command)
