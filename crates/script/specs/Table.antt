-- Document 02, Wish 3, "look it up": what a record does, with the parity bits of a lent table. Beside `run_of` of `Record`.
use Rattle.std.specs.Prelude.{ℕ, List, Option, None, Some}
use Rattle.chip.specs.Table.{send_by}
use Rattle.chip.specs.declared.chip.Chip.{Chip}
use Rattle.script.specs.Record.{outcome_of, run_of}
use Rattle.script.specs.declared.operation.Operation.{Operation}
use Rattle.script.specs.declared.operation.Operation.TheVariants.{Reset, Write, Read, Ticks, Nodes, Events, Send}
use Rattle.script.specs.declared.operation.Outcome.{Outcome}

-- only a send looks at the table: every other record does what `run_of` says
unfoldable pub run_by : List ℕ → Option Operation → Chip → Outcome
run_by table (Some Send) c = outcome_of (send_by table c)
run_by table None c = run_of None c
run_by table (Some (Reset hundredth)) c = run_of (Some (Reset hundredth)) c
run_by table (Some (Write address bits lines)) c = run_of (Some (Write address bits lines)) c
run_by table (Some (Read address)) c = run_of (Some (Read address)) c
run_by table (Some (Ticks k)) c = run_of (Some (Ticks k)) c
run_by table (Some (Nodes k)) c = run_of (Some (Nodes k)) c
run_by table (Some (Events mask)) c = run_of (Some (Events mask)) c
