-- Worked rows of OPENs, by computation: which are accepted, and what holds by one that was.
use Rattle.std.specs.Prelude.{◌≡◌, true, ◌∷◌, Some, None, Err, refl}
use Rattle.rs_attrs.specs.declared.mode.Mode.TheVariants.{Two, Four}
use Rattle.rs_open.specs.Notes.{note_2}
use Rattle.rs_open.specs.declared.open.OpenFault.TheVariants as fault
use Rattle.rs_open.specs.declared.short.Short.TheVariants as short
use Rattle.rs_open.specs.declared.short.Limit.TheVariants as limits
use Rattle.rs_session.specs.declared.heard.Heard.TheVariants.{Note}
use Rattle.rs_session.specs.declared.heard.Heard.TheVariants as heard
use Rattle.rs_session.specs.declared.act.Act.TheVariants as acts
use Rattle.rs_session.specs.declared.settings.Settings.{Settings}
use Rattle.rs_session.specs.Items.{Message}
use Rattle.rs_session.specs.Sessions.{act_of, agreed_mode, agreed_identifier, agreed_limit}
use Rattle.rs_session.proofs.Rows.{a, open_a, opening, came, confirming, up, down}

abbrev extended : Settings
extended = record a { extended = true }

-- ---- which are accepted

wrong_as : act_of a (opening (record open_a { four = Some 64497 })) came ≡ down 2 2
wrong_as = refl

my_as_is_not_looked_at : act_of a (opening (record open_a { my_as = 23456 })) came ≡ acts.Say short.Keepalive
my_as_is_not_looked_at = refl

without_the_capability : act_of a (opening (record open_a { four = None })) came ≡ acts.Say short.Keepalive
without_the_capability = refl

wrong_my_as : act_of a (opening (record open_a { my_as = 64497; four = None })) came ≡ down 2 2
wrong_my_as = refl

as_trans_is_no_number : act_of (record a { peer_as = 4200000000 }) (opening (record open_a { my_as = 23456; four = None })) came ≡ down 2 2
as_trans_is_no_number = refl

wrong_as_with_hold_2 : act_of a (Message (heard.Open (Err (fault.Hold 64497 None)))) came ≡ down 2 2
wrong_as_with_hold_2 = refl

hold_2 : act_of a (Message (heard.Open (Err (fault.Hold 64496 None)))) came ≡ down 2 6
hold_2 = refl

wrong_as_without_identifier : act_of a (Message (heard.Open (Err (fault.Identifier 64496 (Some 64497))))) came ≡ down 2 2
wrong_as_without_identifier = refl

no_identifier : act_of a (Message (heard.Open (Err (fault.Identifier 1 (Some 64496))))) came ≡ down 2 3
no_identifier = refl

version_3 : act_of a (Message (heard.Open (Err fault.Version))) came ≡ acts.Down (Some (note_2 2 1 0 4))
version_3 = refl

malformed : act_of a (Message (heard.Open (Err fault.Malformed))) came ≡ down 2 0
malformed = refl

parameter : act_of a (Message (heard.Open (Err fault.Parameter))) came ≡ down 2 4
parameter = refl

a_second_open : act_of a (opening open_a) confirming ≡ down 5 0
a_second_open = refl

an_open_while_established : act_of a (opening open_a) up ≡ down 5 0
an_open_while_established = refl

-- ---- what the accepted one says

four_octets : agreed_mode a up ≡ Some Four
four_octets = refl

two_octets : agreed_mode a (opening (record open_a { four = None }) ∷ came) ≡ Some Two
two_octets = refl

no_mode_before : agreed_mode a came ≡ None
no_mode_before = refl

no_mode_after : agreed_mode a (Message Note ∷ up) ≡ None
no_mode_after = refl

identifier_of_a : agreed_identifier a up ≡ 0xc000020b
identifier_of_a = refl

limit_short : agreed_limit a (opening (record open_a { long = true }) ∷ came) ≡ limits.Short
limit_short = refl

limit_long : agreed_limit extended (opening (record open_a { long = true }) ∷ came) ≡ limits.Long
limit_long = refl

not_asked_for : agreed_limit extended up ≡ limits.Short
not_asked_for = refl
