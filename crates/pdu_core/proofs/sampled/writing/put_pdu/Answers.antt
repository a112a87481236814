use Rattle.std.proofs.Common.{◌≡◌, ◌≤◌, ◌<◌, ◌+◌, ◌^◌, ◌↔◌, ◌++◌, ℕ, List, pos, length, IsOk, ap, ap₂, subst, ◌∙◌}
use Rattle.arrayvec.specs.ArrayVec.{array_vec_len}
use Rattle.ber_core.specs.Written.{short_integer, written_element}
use Rattle.pdu_core.specs.SampledWritten.{sv_contents, written_asdus}
use Rattle.pdu_core.proofs.sampled.writing.put_pdu.Goals as goal

pub returns-clause-fits : goal.returns-clause-fits
returns-clause-fits g c =
    let contents = λ (n : ℕ) (o : List ℕ). written_element 0x80 (short_integer (pos n)) ++ written_element 0xa2 o in
    let same : contents (length c.as_slice-asdus.result.now) c.as_slice.result.now ≡ sv_contents c.args.pdu.now =
    ap₂ contents (ap length c.as_slice-asdus.ensures) (c.as_slice.ensures.value ∙ c.in_ok-put_asdus.ensures.written ∙ ap (λ (l : List ℕ). l ++ written_asdus c.args.pdu.now.asdus) c.new-contents.ensures) in
    subst (λ (u : List ℕ). IsOk c.put_sampled_apdu.result ↔ ((length u < 2 ^ 32) × (array_vec_len c.args.out.now + length (written_element 0x60 u) ≤ g.row.N))) same c.put_sampled_apdu.ensures.fits
