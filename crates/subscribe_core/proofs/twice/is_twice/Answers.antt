use Rattle.std.proofs.Common.{◌≡◌, slice_get, arith, refl, sym, ap, ◌∙◌, subst, inl, inr}
use Rattle.std.proofs.lemmas.Bool.{false≢true, cases_lt}
use Rattle.std.proofs.lemmas.Option.{slice_get_read, same_Some}
use Rattle.block_core.specs.declared.block.Block.{Block}
use Rattle.subscribe_core.specs.Apart.{HasNameOf}
use Rattle.subscribe_core.proofs.twice.is_twice.Goals as goal

pub returns-then-have_one_name : goal.returns-then-have_one_name
returns-then-have_one_name g c =
    let first = slice_get_read c.args.blocks.now _ c.loop-j.j c.index-blocks-j.result refl (omega arith) c.index-blocks-j.is in
    let second = slice_get_read c.args.blocks.now _ c.args.i c.index-blocks-i.result refl c.requires c.index-blocks-i.is in
    ((λ e. (c.loop-j.j, c.index-blocks-j.result, c.index-blocks-i.result, omega arith, first, second, c.if-have_one_name.ensures.0 refl)), (λ w. refl))

pub returns : goal.returns
returns g c =
    let second = slice_get_read c.args.blocks.now _ c.args.i c.index-blocks-i.result refl c.requires c.index-blocks-i.is in (
      (λ e. absurd (false≢true e)),
      (λ w.
          let same = same_Some w.2 c.index-blocks-i.result (sym w.5 ∙ second) in
          absurd (c.loop-j.invariant w.0 w.1 (omega arith) w.4 (subst (HasNameOf w.1) same w.6))),
    )

pub loop-j-preserved : goal.loop-j-preserved
loop-j-preserved g c = λ k a lt e named.
    elim (cases_lt k c.loop-j.j) [
      | inl below ↦ c.loop-j.invariant k a below e named
      | inr above ↦
          let at : k ≡ c.loop-j.j = omega arith in
          let first = slice_get_read c.args.blocks.now _ c.loop-j.j c.index-blocks-j.result refl (omega arith) c.index-blocks-j.is in
          let same = same_Some a c.index-blocks-j.result (sym e ∙ (ap (slice_get c.args.blocks.now) at ∙ first)) in
          false≢true (c.if-have_one_name.ensures.1 (subst (λ (x : Block _). HasNameOf x c.index-blocks-i.result) same named))
    ]
