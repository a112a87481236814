use Rattle.std.proofs.Common.{List, ℕ, drop, refl, subst, sym, take}
use Rattle.std.specs.Prelude.{codes}
use Rattle.std.specs.Fmt.{decimal}
use Rattle.std.proofs.lemmas.List.{append-nil}
use Rattle.text_core.specs.Pieces.{quoted}
use Rattle.inventory_engine.specs.Sightings.{stream_parts}
use Rattle.text_core.specs.Afters.{IsAfter}
use Rattle.text_core.proofs.Afters.{after_steps, here, step, stopped}
use Rattle.inventory_engine.proofs.stream_text.after_stream.Goals as goal

pub returns-in_err-behind_id : goal.returns-in_err-behind_id
returns-in_err-behind_id c =
    let parts = stream_parts c.args.conf_rev c.args.sv_id.now in
    stopped _ c.args.text.now (take 1 parts) (quoted c.args.sv_id.now) (drop 2 parts) _ c.from_residual-in_err-behind_id.ensures (step c.in_ok-id.ensures (here refl)) c.in_err-behind_id.ensures

pub returns-in_err-rev : goal.returns-in_err-rev
returns-in_err-rev c =
    let parts = stream_parts c.args.conf_rev c.args.sv_id.now in
    stopped _ c.args.text.now (take 2 parts) (codes " rev=") (drop 3 parts) _ c.from_residual-in_err-rev.ensures (step c.in_ok-id.ensures (step c.in_ok-behind_id.ensures (here refl))) c.in_err-rev.ensures

pub returns : goal.returns
returns c =
    let parts = stream_parts c.args.conf_rev c.args.sv_id.now in
    after_steps _ c.args.text.now (take 3 parts) (drop 3 parts) _ (step c.in_ok-id.ensures (step c.in_ok-behind_id.ensures (step c.in_ok-rev.ensures (here refl))))
    (subst (λ (t : List ℕ). IsAfter c.in_ok-rev.rev.now t c.after_decimal.result) (sym (append-nil (decimal c.args.conf_rev))) (rw c.from.ensures at c.after_decimal.ensures))
