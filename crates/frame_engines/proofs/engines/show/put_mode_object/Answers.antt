use Rattle.std.proofs.Common.{[], ◌∷◌, ◌++◌, refl}
use Rattle.std.specs.Prelude.{codes}
use Rattle.list_core.specs.EventText.{mode_text}
use Rattle.text_core.proofs.Fronts.{appended, then_appended}
use Rattle.object_core.specs.EventObject.{event_fields, counted_name}
use Rattle.object_core.specs.Objects.{date_value, in_quotes, opened}
use Rattle.std.specs.Fmt.{decimal}
use Rattle.frame_engines.proofs.ObjectTexts.{one_more}
use Rattle.frame_engines.proofs.engines.show.put_mode_object.Goals as goal

pub returns : goal.returns
returns g c =
    let a = c.args in
    let field = codes ",\"mode\":" ++ in_quotes (mode_text a.on) in
    then_appended c.extend_from_slice.result a.line.now.items c.put_event_head.new.out.items c.extend_from_slice.new.self.items
    (opened (event_fields a.counted a.number a.moment (codes "mode"))) (field ++ codes "}\n") _ c.in_ok-put_event_head.ensures
    (then_appended c.extend_from_slice.result c.put_event_head.new.out.items c.put_field_word.new.out.items c.extend_from_slice.new.self.items field (codes "}\n") (field ++ codes "}\n")
    (rw c.mode_word.ensures at c.in_ok-put_field_word.ensures)
    (appended c.extend_from_slice.result c.put_field_word.new.out.items c.extend_from_slice.new.self.items (codes "}\n") (codes "}\n") c.extend_from_slice.ensures.items refl) refl)
    (one_more (counted_name a.counted, decimal a.number) ((codes "microseconds", decimal a.moment) ∷ (codes "time", date_value a.moment) ∷ (codes "kind", in_quotes (codes "mode")) ∷ [])
    (codes "mode", in_quotes (mode_text a.on)))
