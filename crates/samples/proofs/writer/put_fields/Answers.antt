-- `samples::writer::put_fields` meets its contract: each field's words stand behind the widths of those before it. Assumes nothing.
use mathlib.Core.Path.{◌∙◌}
use Rattle.samples.specs.Layout.{widths}
use Rattle.samples.proofs.PutLaws.{put_all}
use Rattle.samples.proofs.writer.put_fields.Goals as goal

pub returns : goal.returns
returns c =
    let s = c.args.sample in
    c.put_number-4.ensures
    ∙ put_all (widths c.args.edition) s.header s.source s.stamp s.user _ _ c.args.out.now _ _ _
    c.stamp_bytes-stamp_size.ensures
    c.user_bytes.ensures
    c.put_number.ensures
    c.put_number-2.ensures
    c.put_number-3.ensures
