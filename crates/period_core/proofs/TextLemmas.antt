-- The shortest text of a point is made from its date and its second.
use Rattle.std.proofs.Common.{◌≡◌, ◌∙◌, ℕ, ℤ, pos, ◌≤ℤ◌, ap, ◌++◌}
use Rattle.std.specs.Prelude.{◌≢◌}
use Rattle.jiff_core.specs.declared.civil.date.Date.{Date}
use Rattle.jiff_core.specs.Date.{epoch_day}
use Rattle.period_core.specs.Point.{date_text, day_of, point_text, second_of, time_of_second, time_text, year_month_day}
use Rattle.period_core.proofs.DatesLemmas.{point_text-from_date}
use Rattle.period_core.proofs.PointLemmas.{text_behind-later, text_behind-midnight}

-- at midnight it is the date's text only
pub point_text-midnight : (n : ℤ) (date : Date) (s : ℕ) → pos 1 ≤ℤ date.year → epoch_day date ≡ day_of n
    → s ≡ second_of n → s ≡ 0 → point_text n ≡ date_text (year_month_day date)
point_text-midnight n date s year day second is =
    point_text-from_date n date s year day second
    ∙ ap (λ behind. date_text (year_month_day date) ++ behind) (text_behind-midnight s is)

-- otherwise the time's text follows
pub point_text-later : (n : ℤ) (date : Date) (s : ℕ) → pos 1 ≤ℤ date.year → epoch_day date ≡ day_of n
    → s ≡ second_of n → s ≢ 0 → point_text n ≡ date_text (year_month_day date) ++ time_text (time_of_second s)
point_text-later n date s year day second later =
    point_text-from_date n date s year day second
    ∙ ap (λ behind. date_text (year_month_day date) ++ behind) (text_behind-later s later)
