use Rattle.std.proofs.Common.{◌++◌, ap, ◌∙◌}
use Rattle.std.specs.Prelude.{codes}
use Rattle.std.specs.Fmt.{decimal}
use Rattle.std.specs.List.{flat_map}
use Rattle.hex.specs.Hex.{encode_lower}
use Rattle.text_core.specs.Pieces.{escaped}
use Rattle.frame_engines.proofs.AsduParts.{usual_text}
use Rattle.frame_engines.proofs.ShortTexts.{front, fronts_text, none}
use Rattle.frame_engines.proofs.texts.sampled.prepend_usual_text.Goals as goal

pub returns-else-not-put_plain : goal.returns-else-not-put_plain
returns-else-not-put_plain c = λ _.
    let asdu = c.args.asdu.now in
    let all = fronts_text (
    front (codes "(id=\"") c.put-in-None-None-None-None-None-4.ensures.text (
    front (flat_map escaped asdu.sv_id.now) (c.put_plain.ensures.put c.if-not-put_plain.false) (
    front (codes "\" set=- cnt=") c.put-in-None-None-None-None-None-3.ensures.text (
    front (decimal asdu.smp_cnt) c.put_decimal-in-None-None-None-None-None-2.ensures.text (
    front (codes " rev=") c.put-in-None-None-None-None-None-2.ensures.text (
    front (decimal asdu.conf_rev) c.put_decimal-in-None-None-None-None-None.ensures.text (
    front (codes " t=- synch=") c.put-in-None-None-None-None-None.ensures.text (
    front (decimal asdu.smp_synch) c.put_decimal.ensures.text (
    front (codes " rate=- sample=") c.put.ensures.text (
    none c.requires)))))))))) in
    let absent = c.in-None-None-None-None-None in
    rw (absent.is-0, absent.is-1, absent.is-2, absent.is-3, absent.is-4)
    (ap (λ l. l ++ (encode_lower asdu.sample.now ++ codes " mod=- f89=-)")) all ∙ usual_text asdu.sv_id.now (decimal asdu.smp_cnt) (decimal asdu.conf_rev) (decimal asdu.smp_synch) (encode_lower asdu.sample.now))
