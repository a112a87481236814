use Rattle.std.proofs.Common.{List, [], ◌∷◌, ◌++◌, ℕ, ap, sym, refl, append-nil}
use Rattle.std.specs.Prelude.{codes}
use Rattle.text_core.proofs.Fronts.{appended, then_appended}
use Rattle.object_core.specs.Objects.{Field, in_quotes}
use Rattle.object_core.specs.Onward.{next_field}
use Rattle.exchange_engines.specs.EntryObject.{block_fields}
use Rattle.exchange_engines.specs.ExchangeNames.{name_of_reason}
use Rattle.exchange_engines.proofs.EntryObjects.{event_ended}
use Rattle.exchange_engines.proofs.texts.entry_object.put_refused_object.Goals as goal

pub returns : goal.returns
returns g c =
    let h = c.args.heading.now in
    let reason : Field = (codes "reason", in_quotes (name_of_reason c.args.reason)) in
    let end = then_appended c.extend_from_slice.result _ _ _ (next_field reason) (codes "}\n") _ (rw c.reason_name.ensures at c.in_ok-put_field_word.ensures) (appended _ _ _ (codes "}\n") (codes "}\n") c.extend_from_slice.ensures.items refl)
    (ap (λ (l : List ℕ). l ++ codes "}\n") (sym (append-nil (next_field reason)))) in
    event_ended _ _ _ _ h.counted h.number h.moment (codes "refused") (block_fields h.blocks.now c.args.block) (reason ∷ []) c.in_ok-put_entry_object_head.ensures end
