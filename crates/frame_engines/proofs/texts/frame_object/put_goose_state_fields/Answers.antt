use Rattle.std.specs.Prelude.{codes}
use Rattle.std.specs.Fmt.{decimal}
use Rattle.pdu_core.specs.Views.{pdu_of}
use Rattle.text_core.specs.Pieces.{boolean_text}
use Rattle.frame_engines.proofs.GooseFields.{state_pieces}
use Rattle.frame_engines.proofs.ShortTexts.{field, front, fronts_appended, none}
use Rattle.frame_engines.proofs.texts.frame_object.put_goose_state_fields.Goals as goal

pub returns : goal.returns
returns g c =
    let goose = c.args.goose.now in
    fronts_appended c.append_to.result c.args.out.now.items c.append_to.new.out.items c.put-6.new.self (state_pieces (pdu_of {A = Unit {0}} goose)) (
    field (codes ",\"stNum\":") (decimal goose.st_num) c.put-6.ensures.text c.put_decimal-3.ensures.text (
    field (codes ",\"sqNum\":") (decimal goose.sq_num) c.put-5.ensures.text c.put_decimal-2.ensures.text (
    field (codes ",\"simulation\":") (boolean_text goose.simulation) c.put-4.ensures.text c.put_boolean-2.ensures.text (
    field (codes ",\"confRev\":") (decimal goose.conf_rev) c.put-3.ensures.text c.put_decimal.ensures.text (
    field (codes ",\"ndsCom\":") (boolean_text goose.nds_com) c.put-2.ensures.text c.put_boolean.ensures.text (
    front (codes ",\"members\":") c.put.ensures.text (none c.new-text.ensures))))))) c.append_to.ensures
