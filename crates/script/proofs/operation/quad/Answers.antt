-- `script::operation::quad` meets its contract: four bytes, each counts 256 times the one before. Assumes nothing.
use mathlib.Core.Path.{◌≡◌}
use Prim.Native.Nat.{◌+◌, ◌*◌}
use native.Mathlib.Omega.{arith}
use lib.ListN.{drop, get_or, take}
use Rattle.words.specs.Bytes.{number}
use Rattle.script.proofs.RecordLaws.{four_bytes}
use Rattle.script.proofs.operation.quad.Goals as goal

pub returns : goal.returns
returns c =
    let a = c.args in
    let sum : number (take 4 (drop a.at a.bytes.now)) ≡ get_or a.bytes.now a.at 0 + 256 * get_or a.bytes.now (a.at + 1) 0 + 65536 * get_or a.bytes.now (a.at + 2) 0 + 16777216 * get_or a.bytes.now (a.at + 3) 0 =
    four_bytes a.bytes.now a.at (omega arith) in
    record {
      value = omega arith;
      upper_bound = omega arith;
    }
