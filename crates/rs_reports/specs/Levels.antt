-- From which level of the log on a report is shown.
use Rattle.std.specs.Prelude.{Bool, true, false, Option, Some, None, Ok, Err}
use Rattle.rs_reports.specs.declared.logging.Level.{Level}
use Rattle.rs_reports.specs.declared.logging.Level.TheVariants as levels
use Rattle.rs_reports.specs.declared.reports.Report.{Report}
use Rattle.rs_reports.specs.declared.reports.Report.TheVariants as reports

abbrev pub level_of : Report → Level
level_of (reports.Strangers address count) = levels.Error
level_of (reports.Up client mode limit hold) = levels.Change
level_of (reports.Down client ending offered) = levels.Error
level_of (reports.Busy client address count holder) = levels.Error
level_of (reports.KeptOut client address count) = levels.Error
level_of (reports.Enabled client) = levels.Change
level_of (reports.Faulted client count last) = levels.Route
level_of (reports.PassedOver client) = levels.Route
level_of (reports.Rules (Ok accepted)) = levels.Change
level_of (reports.Rules (Err fault)) = levels.Error
level_of (reports.File fault) = levels.Error
level_of (reports.LeftOut client count) = levels.Error

-- Whether reports of a level are shown where this one was asked for: each has all that those before it have.
abbrev pub is_shown : Option Level → Level → Bool
is_shown None level = false
is_shown (Some levels.Error) levels.Error = true
is_shown (Some levels.Error) levels.Change = false
is_shown (Some levels.Error) levels.Route = false
is_shown (Some levels.Change) levels.Error = true
is_shown (Some levels.Change) levels.Change = true
is_shown (Some levels.Change) levels.Route = false
is_shown (Some levels.Route) level = true
