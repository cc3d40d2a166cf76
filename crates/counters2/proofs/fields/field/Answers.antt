-- `counters2::fields::field` meets its contract: a register has no seventeenth field. Assumes nothing.
use Rattle.std.proofs.Common.{sym, rules}
use Rattle.counters2.proofs.FieldLaws.{field_past}
use Rattle.counters2.proofs.fields.field.Goals as goal

pub returns : goal.returns
returns c = let a = c.args in sym (field_past a.bits a.i (search rules) (search rules))
