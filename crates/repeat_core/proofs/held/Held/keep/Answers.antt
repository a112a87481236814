use Rattle.std.proofs.Common.{◌≡◌, ℕ, ◌+◌, ◌<◌, ◌^◌, List, length, ap₂, ◌∙◌, arith, rules, subst, sym}
use Rattle.std.specs.Prelude.{slice_range}
use Rattle.pdu_core.specs.Views.{pdu_of}
use Rattle.frame_core.proofs.EnvelopeLaws.{passes}
use Rattle.repeat_core.specs.Noted.{noted_pdu}
use Rattle.repeat_core.specs.WrittenAround.{IsWrittenAround}
use Rattle.repeat_core.proofs.WrittenWhole.{noted_written}
use Rattle.repeat_core.proofs.held.Held.keep.Goals as goal

pub invariant_of-self-2-clause-around : goal.invariant_of-self-2-clause-around
invariant_of-self-2-clause-around g c = λ good told.
    let o = c.args.octets.now in
    let n = c.in-Ok.notes in
    let e = c.in-Ok.ensures in
    let few : length o < 2 ^ 32 = omega (arith, (passes o c.requires.envelope.judged).head.front.short) in
    let form = ap₂ (λ (i j : ℕ). slice_range o (i + 10) j) e.place e.end ∙ c.requires.written told in
    let same : c.extend_from_slice.new.self.items ≡ o = search rules in
    subst (λ (l : List ℕ). ∥ IsWrittenAround (noted_pdu l n 0 0) l n ∥₁) (sym same) ∣ noted_written (pdu_of c.args.goose.now) o n e.noted.placed few e.noted.around e.noted.pdu form ∣₁
