-- A run of equal numbers that is not printed yet: the programs' own, document 01 says nothing of it.
use Rattle.std.specs.Prelude.{ℕ, ◌+◌, ◌%◌, ◌^◌, cond, ◌==◌, Option, None, Some}
use Rattle.printing.specs.declared.print.Run.{Run}

abbrev pub empty_run : Option Run
empty_run = None

-- one number more: a run with that value grows, and else, as where there is none, a run of one begins
abbrev pub grown_by : ℕ → Option Run → Option Run
grown_by value None = Some (record { value = value; count = 1 })
grown_by value (Some run) =
    Some (record { value = value; count = cond (run.value == value) ((run.count + 1) % 2 ^ 64) 1 })
