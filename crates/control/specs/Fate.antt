-- Document 01, "Triggers and the queue": what becomes of a trigger that has exactly one active line: off, filtered, lost, told to wait, or taken.
use Rattle.std.specs.Prelude.{Bool, cond}
use Rattle.control.specs.declared.fate.Fate.{Fate}
use Rattle.control.specs.declared.fate.Fate.TheVariants.{Off as is_off, Filtered as is_filtered, Lost as is_lost, Wait as is_told, Taken as is_taken}

-- "sampling is off", "filtered"; "Lacking room, it replies 10 under write wait. Otherwise it replies 8"
abbrev pub fate : Bool → Bool → Bool → Bool → Fate
fate sampling passes lacking writewait =
    cond sampling (cond passes (cond lacking (cond writewait is_told is_lost) is_taken) is_filtered) is_off
