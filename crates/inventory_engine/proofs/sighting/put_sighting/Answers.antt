use Rattle.std.proofs.Common.{◌∙◌, ◌++◌, [], ◌∷◌, List, ℕ, Result, true, false, ap, refl, subst}
use Rattle.std.specs.List.{flat_map}
use Rattle.inventory_engine.specs.declared.known.Known.{Known}
use Rattle.inventory_engine.specs.computed.PieceText.{piece_text}
use Rattle.known_core.specs.computed.Held.{AnswersPlace, PutsOne, position_of}
use Rattle.known_core.specs.declared.runs.Place.{Place}
use Rattle.inventory_engine.specs.computed.KnownTexts.{WritesText, by_key, known_text}
use Rattle.inventory_engine.specs.computed.BlocksStep.{AppendsLines, telling_at}
use Rattle.inventory_engine.specs.Sightings.{Sighting, key_of}
use Rattle.inventory_engine.specs.BlocksText.{told_by}
use Rattle.inventory_engine.specs.computed.ShownFields.{sighting_by}
use Rattle.inventory_engine.proofs.Appending.{compared, each_told, on_error, on_success, said_changed, said_first, said_same, wanted_changed, wanted_first}
use Rattle.text_core.proofs.Fronts.{grown, same_stands}
use Rattle.inventory_engine.proofs.sighting.put_sighting.Goals as goal

pub returns-then-is_text-clause-written : goal.returns-then-is_text-clause-written
returns-then-is_text-clause-written g c =
    let s : Sighting = sighting_by c.args.app_id c.args.name.now c.args.shown (flat_map piece_text c.args.pieces.now) in
    let there = subst (λ (r : Result Place Place). AnswersPlace (by_key (key_of s)) c.args.known.now r) c.in-Ok.is c.requires.found in
    let at = position_of c.args.known.now c.in-Ok.place in
    let one : Known g.row.A.Denot = record { app_id = c.args.app_id; octets = []; text_at = 0 } in
    said_same (telling_at c.args.heading) s c.args.known.now at one c.args.line.now.items there.1
    (compared c.args.known.now at one c.text.result.now s.text c.is_text.result true (c.text.ensures ∙ ap known_text (c.get.ensures one)) c.is_text.ensures c.if-is_text.true)

pub returns-in_err-size-in-Ok-clause-wants : goal.returns-in_err-size-in-Ok-clause-wants
returns-in_err-size-in-Ok-clause-wants g c =
    let s : Sighting = sighting_by c.args.app_id c.args.name.now c.args.shown (flat_map piece_text c.args.pieces.now) in
    let there = subst (λ (r : Result Place Place). AnswersPlace (by_key (key_of s)) c.args.known.now r) c.in-Ok.is c.requires.found in
    let at = position_of c.args.known.now c.in-Ok.place in
    let one : Known g.row.A.Denot = record { app_id = c.args.app_id; octets = []; text_at = 0 } in
    on_error _ _ (wanted_changed (telling_at c.args.heading) s c.args.known.now (each_told c.args.heading.form c.args.heading.number c.args.heading.moment) at one there.1
    (compared c.args.known.now at one c.text.result.now s.text c.is_text.result false (c.text.ensures ∙ ap known_text (c.get.ensures one)) c.is_text.ensures c.if-is_text.false))

pub returns-in_ok-size-in-Ok-clause-wants : goal.returns-in_ok-size-in-Ok-clause-wants
returns-in_ok-size-in-Ok-clause-wants g c =
    let s : Sighting = sighting_by c.args.app_id c.args.name.now c.args.shown (flat_map piece_text c.args.pieces.now) in
    let there = subst (λ (r : Result Place Place). AnswersPlace (by_key (key_of s)) c.args.known.now r) c.in-Ok.is c.requires.found in
    let at = position_of c.args.known.now c.in-Ok.place in
    let one : Known g.row.A.Denot = record { app_id = c.args.app_id; octets = []; text_at = 0 } in
    on_error _ _ (wanted_changed (telling_at c.args.heading) s c.args.known.now (each_told c.args.heading.form c.args.heading.number c.args.heading.moment) at one there.1
    (compared c.args.known.now at one c.text.result.now s.text c.is_text.result false (c.text.ensures ∙ ap known_text (c.get.ensures one)) c.is_text.ensures c.if-is_text.false))

pub returns-in_ok-size-in-Ok-clause-written : goal.returns-in_ok-size-in-Ok-clause-written
returns-in_ok-size-in-Ok-clause-written g c =
    let known = c.args.known.now in
    let after = c.set_text.new.known in
    let place = c.in-Ok.place in
    let s : Sighting = sighting_by c.args.app_id c.args.name.now c.args.shown (flat_map piece_text c.args.pieces.now) in
    let there = subst (λ (r : Result Place Place). AnswersPlace (by_key (key_of s)) c.args.known.now r) c.in-Ok.is c.requires.found in
    on_success c.set_text.result (WritesText known after place s.text) (AppendsLines (telling_at c.args.heading) (s ∷ []) known after c.args.line.now.items c.put_told.new.line.items)
    (λ writes. said_changed (telling_at c.args.heading) s known place after c.args.line.now.items c.put_told.new.line.items there.1
    (λ d. compared known (position_of known place) d c.text.result.now s.text c.is_text.result false (c.text.ensures ∙ ap known_text (c.get.ensures d)) c.is_text.ensures c.if-is_text.false) writes
    (c.in_ok-size-in-Ok.ensures.text ∙ ap (λ (w : List ℕ). c.args.line.now.items ++ told_by c.args.heading.form c.args.heading.number c.args.heading.moment w s.text s.fields) c.changed.ensures))
    c.set_text.ensures.written

pub returns-in_err-size-in-Err-clause-wants : goal.returns-in_err-size-in-Err-clause-wants
returns-in_err-size-in-Err-clause-wants g c =
    let s : Sighting = sighting_by c.args.app_id c.args.name.now c.args.shown (flat_map piece_text c.args.pieces.now) in
    let gap = subst (λ (r : Result Place Place). AnswersPlace (by_key (key_of s)) c.args.known.now r) c.in-Err.is c.requires.found in
    on_error _ _ (wanted_first (telling_at c.args.heading) s c.args.known.now (each_told c.args.heading.form c.args.heading.number c.args.heading.moment) (position_of c.args.known.now c.in-Err.place) gap.1)

pub returns-in_err-one-in-Err-clause-wants : goal.returns-in_err-one-in-Err-clause-wants
returns-in_err-one-in-Err-clause-wants g c =
    let s : Sighting = sighting_by c.args.app_id c.args.name.now c.args.shown (flat_map piece_text c.args.pieces.now) in
    let gap = subst (λ (r : Result Place Place). AnswersPlace (by_key (key_of s)) c.args.known.now r) c.in-Err.is c.requires.found in
    on_error _ _ (wanted_first (telling_at c.args.heading) s c.args.known.now (each_told c.args.heading.form c.args.heading.number c.args.heading.moment) (position_of c.args.known.now c.in-Err.place) gap.1)

pub returns-in_ok-one-in-Err-clause-wants : goal.returns-in_ok-one-in-Err-clause-wants
returns-in_ok-one-in-Err-clause-wants g c =
    let s : Sighting = sighting_by c.args.app_id c.args.name.now c.args.shown (flat_map piece_text c.args.pieces.now) in
    let gap = subst (λ (r : Result Place Place). AnswersPlace (by_key (key_of s)) c.args.known.now r) c.in-Err.is c.requires.found in
    on_error _ _ (wanted_first (telling_at c.args.heading) s c.args.known.now (each_told c.args.heading.form c.args.heading.number c.args.heading.moment) (position_of c.args.known.now c.in-Err.place) gap.1)

pub returns-in_ok-one-in-Err-clause-written : goal.returns-in_ok-one-in-Err-clause-written
returns-in_ok-one-in-Err-clause-written g c =
    let known = c.args.known.now in
    let after = c.insert.new.self in
    let one = c.in_ok-one-in-Err.one in
    let s : Sighting = sighting_by c.args.app_id c.args.name.now c.args.shown (flat_map piece_text c.args.pieces.now) in
    let gap = subst (λ (r : Result Place Place). AnswersPlace (by_key (key_of s)) c.args.known.now r) c.in-Err.is c.requires.found in
    on_success c.insert.result (PutsOne known after c.in-Err.place one) (AppendsLines (telling_at c.args.heading) (s ∷ []) known after c.args.line.now.items c.put_told-in-Err.new.line.items)
    (λ puts. said_first (telling_at c.args.heading) s known c.in-Err.place one after c.args.line.now.items c.put_told-in-Err.new.line.items gap.1
    c.in_ok-one-in-Err.ensures.key c.in_ok-one-in-Err.ensures.text puts
    (c.in_ok-size-in-Err.ensures.text ∙ ap (λ (w : List ℕ). c.args.line.now.items ++ told_by c.args.heading.form c.args.heading.number c.args.heading.moment w s.text s.fields) c.first.ensures))
    c.insert.ensures.put

pub returns-in_ok-size-in-Ok-clause-kept : goal.returns-in_ok-size-in-Ok-clause-kept
returns-in_ok-size-in-Ok-clause-kept g c = grown _ _ _ _ c.in_ok-size-in-Ok.ensures.text (same_stands _ _ refl)

pub returns-in_err-one-in-Err-clause-kept : goal.returns-in_err-one-in-Err-clause-kept
returns-in_err-one-in-Err-clause-kept g c = grown _ _ _ _ c.in_ok-size-in-Err.ensures.text (same_stands _ _ refl)

pub returns-in_ok-one-in-Err-clause-kept : goal.returns-in_ok-one-in-Err-clause-kept
returns-in_ok-one-in-Err-clause-kept g c = grown _ _ _ _ c.in_ok-size-in-Err.ensures.text (same_stands _ _ refl)
