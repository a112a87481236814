use Rattle.std.specs.Prelude.{codes}
use Rattle.std.specs.Fmt.{decimal}
use Rattle.pdu_core.specs.SampledViews.{asdu_of}
use Rattle.text_core.specs.Pieces.{decimal_or_dash}
use Rattle.text_core.specs.ValueText.{time_or_dash}
use Rattle.frame_engines.proofs.AsduParts.{count_parts}
use Rattle.frame_engines.proofs.ShortTexts.{field, fronts_appended, none}
use Rattle.frame_engines.proofs.texts.sampled.put_counts_text.Goals as goal

pub returns : goal.returns
returns g c =
    let asdu = c.args.asdu.now in
    fronts_appended c.append_to.result c.args.out.now.items c.append_to.new.out.items c.put-5.new.self (count_parts (asdu_of {A = Unit {0}} asdu)) (
    field (codes " cnt=") (decimal asdu.smp_cnt) c.put-5.ensures.text c.put_decimal-3.ensures.text (
    field (codes " rev=") (decimal asdu.conf_rev) c.put-4.ensures.text c.put_decimal-2.ensures.text (
    field (codes " t=") (time_or_dash asdu.refr_tm) c.put-3.ensures.text c.put_utc_if.ensures.text (
    field (codes " synch=") (decimal asdu.smp_synch) c.put-2.ensures.text c.put_decimal.ensures.text (
    field (codes " rate=") (decimal_or_dash asdu.smp_rate) c.put.ensures.text c.put_decimal_if.ensures.text (none c.new-text.ensures)))))) c.append_to.ensures
