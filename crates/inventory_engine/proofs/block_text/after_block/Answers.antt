use Rattle.std.proofs.Common.{[], ◌∷◌, ◌++◌, List, ℕ, drop, refl, subst, sym, take}
use Rattle.std.specs.Prelude.{codes}
use Rattle.std.specs.Fmt.{decimal}
use Rattle.std.proofs.lemmas.List.{append-nil}
use Rattle.text_core.specs.Pieces.{four_digits}
use Rattle.inventory_engine.specs.Configuration.{Configuration}
use Rattle.inventory_engine.specs.Sightings.{text_or_none}
use Rattle.text_core.specs.Afters.{IsAfter}
use Rattle.inventory_engine.specs.computed.ShownFields.{configuration_shown}
use Rattle.text_core.proofs.Afters.{after_steps, here, step, stopped}
use Rattle.inventory_engine.proofs.block_text.after_block.Goals as goal

-- a field behind its comma
abbrev field : List ℕ → List ℕ
field text = codes "," ++ text

-- the fields of a BLOCK
abbrev fields : Configuration → List (List ℕ)
fields b = four_digits b.app_id ∷ field b.gocb_ref ∷ field b.dat_set ∷ field (text_or_none b.go_id) ∷ field (decimal b.conf_rev) ∷ field (decimal b.entries) ∷ []

pub returns-in_err-behind_ref : goal.returns-in_err-behind_ref
returns-in_err-behind_ref c =
    let b = configuration_shown c.args.block.now in
    stopped _ c.args.text.now (take 1 (fields b)) (field b.gocb_ref) (drop 2 (fields b)) _ c.from_residual-in_err-behind_ref.ensures
    (step c.in_ok-behind_app_id.ensures (here refl)) c.in_err-behind_ref.ensures

pub returns-in_err-behind_set : goal.returns-in_err-behind_set
returns-in_err-behind_set c =
    let b = configuration_shown c.args.block.now in
    stopped _ c.args.text.now (take 2 (fields b)) (field b.dat_set) (drop 3 (fields b)) _ c.from_residual-in_err-behind_set.ensures
    (step c.in_ok-behind_app_id.ensures (step c.in_ok-behind_ref.ensures (here refl))) c.in_err-behind_set.ensures

pub returns-in_err-behind_go_id : goal.returns-in_err-behind_go_id
returns-in_err-behind_go_id c =
    let b = configuration_shown c.args.block.now in
    stopped _ c.args.text.now (take 3 (fields b)) (field (text_or_none b.go_id)) (drop 4 (fields b)) _ c.from_residual-in_err-behind_go_id.ensures
    (step c.in_ok-behind_app_id.ensures (step c.in_ok-behind_ref.ensures (step c.in_ok-behind_set.ensures (here refl)))) (rw c.present.ensures at c.in_err-behind_go_id.ensures)

pub returns-in_err-behind_rev : goal.returns-in_err-behind_rev
returns-in_err-behind_rev c =
    let b = configuration_shown c.args.block.now in
    stopped _ c.args.text.now (take 4 (fields b)) (field (decimal b.conf_rev)) (drop 5 (fields b)) _ c.from_residual-in_err-behind_rev.ensures
    (step c.in_ok-behind_app_id.ensures (step c.in_ok-behind_ref.ensures (step c.in_ok-behind_set.ensures (step (rw c.present.ensures at c.in_ok-behind_go_id.ensures) (here refl))))) (rw c.from.ensures at c.in_err-behind_rev.ensures)

pub returns : goal.returns
returns c =
    let b = configuration_shown c.args.block.now in
    after_steps _ c.args.text.now (take 5 (fields b)) (drop 5 (fields b)) _
    (step c.in_ok-behind_app_id.ensures (step c.in_ok-behind_ref.ensures (step c.in_ok-behind_set.ensures (step (rw c.present.ensures at c.in_ok-behind_go_id.ensures) (step (rw c.from.ensures at c.in_ok-behind_rev.ensures) (here refl))))))
    (subst (λ (t : List ℕ). IsAfter c.in_ok-behind_rev.behind_rev.now t c.after_number-2.result) (sym (append-nil (field (decimal b.entries)))) c.after_number-2.ensures)
