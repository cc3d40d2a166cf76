-- What a record does by the table of parity bits is what it does: of a send, `send_by_lem` of chip. Assumes nothing.
use mathlib.Core.Path.{◌≡◌, refl, ap}
use Rattle.words.specs.Table.{parity_table}
use Rattle.chip.specs.declared.chip.Chip.{Chip}
use Rattle.chip.proofs.TableLaws.{send_by_lem}
use Rattle.script.specs.Record.{outcome_of, run_of}
use Rattle.script.specs.Table.{run_by}
use Rattle.script.specs.declared.operation.Operation.{Operation}
use Rattle.script.specs.declared.operation.Operation.TheVariants.{Reset, Write, Read, Ticks, Nodes, Events, Send}
use Rattle.std.proofs.Common.{Option, None, Some}

pub run_by_lem : (operation : Option Operation) (c : Chip) → run_by parity_table operation c ≡ run_of operation c
unfolding run_by run_of
run_by_lem None c = refl
run_by_lem (Some (Reset hundredth)) c = refl
run_by_lem (Some (Write address bits lines)) c = refl
run_by_lem (Some (Read address)) c = refl
run_by_lem (Some (Ticks k)) c = refl
run_by_lem (Some (Nodes k)) c = refl
run_by_lem (Some (Events mask)) c = refl
run_by_lem (Some Send) c = ap outcome_of (send_by_lem c)
