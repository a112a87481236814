-- The fields of an ASDU, as they are written together.
use Rattle.std.proofs.Common.{◌≡◌, ℕ, List, [], ◌∷◌, ◌++◌, append_assoc, ap, sym, refl}
use Rattle.std.specs.Prelude.{codes}
use Rattle.std.specs.List.{concat, flat_map}
use Rattle.std.specs.Fmt.{decimal}
use Rattle.pdu_core.specs.declared.sampled.asdu.Asdu.{Asdu}
use Rattle.text_core.specs.Pieces.{decimal_or_dash, escaped, octets_or_dash, quoted}
use Rattle.text_core.specs.ValueText.{time_or_dash}

-- between its data set and its sample
abbrev pub count_parts : {A : Type 0} → Asdu A → List (List ℕ)
count_parts a =
    (codes " cnt=" ++ decimal a.smp_cnt)
    ∷ (codes " rev=" ++ decimal a.conf_rev)
    ∷ (codes " t=" ++ time_or_dash a.refr_tm)
    ∷ (codes " synch=" ++ decimal a.smp_synch)
    ∷ (codes " rate=" ++ decimal_or_dash a.smp_rate)
    ∷ []

-- behind its sample
abbrev pub end_parts : {A : Type 0} → Asdu A → List (List ℕ)
end_parts a = (codes " mod=" ++ octets_or_dash a.smp_mod) ∷ (codes " f89=" ++ octets_or_dash a.field_89) ∷ codes ")" ∷ []

-- up to its sample, where its name is written as it is and no optional field is there
abbrev pub usual_parts : (id cnt rev synch : List ℕ) → List (List ℕ)
usual_parts id cnt rev synch = codes "(id=\"" ∷ id ∷ codes "\" set=- cnt=" ∷ cnt ∷ codes " rev=" ∷ rev ∷ codes " t=- synch=" ∷ synch ∷ codes " rate=- sample=" ∷ []

pub usual_text : (id cnt rev synch sample : List ℕ) → concat (usual_parts (flat_map escaped id) cnt rev synch) ++ (sample ++ codes " mod=- f89=-)")
    ≡ concat ((codes "(id=" ++ quoted id) ∷ (codes " set=" ++ codes "-") ∷ (codes " cnt=" ++ cnt) ∷ (codes " rev=" ++ rev) ∷ (codes " t=" ++ codes "-") ∷ (codes " synch=" ++ synch) ∷ (codes " rate=" ++ codes "-")
    ∷ (codes " sample=" ++ sample) ∷ (codes " mod=" ++ codes "-") ∷ (codes " f89=" ++ codes "-") ∷ codes ")" ∷ [])
usual_text id cnt rev synch sample = simp append_assoc (ap (λ (l : List ℕ). 40 ∷ 105 ∷ 100 ∷ 61 ∷ 34 ∷ l) (sym (append_assoc (flat_map escaped id) (34 ∷ []) _)))

-- the last words, and a space
pub usual_space : (text sample all : List ℕ) → text ++ (sample ++ codes " mod=- f89=-)") ≡ all → (text ++ sample) ++ codes " mod=- f89=-) " ≡ all ++ codes " "
usual_space text sample all is = rw (← is) (simp append_assoc refl)
