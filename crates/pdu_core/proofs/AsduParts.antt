-- ASDUs that are still to be written begin with the next one.
use Rattle.std.proofs.Common.{◌≡◌, ℕ, ◌+◌, ◌<◌, List, ◌++◌, length, drop, get_or, sym, ap, ◌∙◌}
use Rattle.pdu_core.specs.SampledWritten.{written_asdu, written_asdus}
use Rattle.pdu_core.specs.declared.sampled.asdu.Asdu.{Asdu}
use Rattle.pdu_core.proofs.Each.{left_from}

pub asdu_next : {A : Type 0} (asdus : List (Asdu A)) (i : ℕ) (a : Asdu A) (out all : List ℕ) → i < length asdus → a ≡ get_or asdus i a → out ++ written_asdus (drop i asdus) ≡ all
    → out ++ (written_asdu a ++ written_asdus (drop (i + 1) asdus)) ≡ all
asdu_next asdus i a out all inside is so_far = ap (λ l. out ++ written_asdus l) (sym (left_from asdus i a inside is)) ∙ so_far
