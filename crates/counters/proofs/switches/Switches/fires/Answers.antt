-- `counters::switches::Switches::fires` meets its contract: past the sixteenth bit nothing is enabled. Assumes nothing.
use Rattle.std.proofs.Common.{Bool, not, ◌&&◌, sym, ap, rules}
use Rattle.counters.specs.Bank.{bit}
use Rattle.counters.proofs.BitLaws.{bit_past}
use Rattle.counters.proofs.switches.Switches.fires.Goals as goal

pub returns : goal.returns
returns c =
    let a = c.args in
    ap (λ (b : Bool). b && (bit a.self.high a.index && not (bit a.self.low a.index))) (sym (bit_past 16 a.self.enabled a.index (search rules) (search rules)))
