-- The text of an APDU of Sampled Values.
use Rattle.std.specs.Prelude.{ℕ, List, [], ◌∷◌, ◌++◌, codes}
use Rattle.std.specs.List.{concat}
use Rattle.std.specs.Fmt.{decimal}
use Rattle.hex.specs.Hex.{encode_lower}
use Rattle.pdu_core.specs.declared.sampled.asdu.Asdu.{Asdu}
use Rattle.pdu_core.specs.declared.sampled.asdu.SvPdu.{SvPdu}
use Rattle.text_core.specs.Pieces.{decimal_or_dash, octets_or_dash, quoted, quoted_or_dash, spaced}
use Rattle.text_core.specs.ValueText.{time_or_dash}

-- the fields of an ASDU, in their order in the standard
abbrev pub asdu_parts : {A : Type 0} → Asdu A → List (List ℕ)
asdu_parts a =
    (codes "(id=" ++ quoted a.sv_id)
    ∷ (codes " set=" ++ quoted_or_dash a.dat_set)
    ∷ (codes " cnt=" ++ decimal a.smp_cnt)
    ∷ (codes " rev=" ++ decimal a.conf_rev)
    ∷ (codes " t=" ++ time_or_dash a.refr_tm)
    ∷ (codes " synch=" ++ decimal a.smp_synch)
    ∷ (codes " rate=" ++ decimal_or_dash a.smp_rate)
    ∷ (codes " sample=" ++ encode_lower a.sample)
    ∷ (codes " mod=" ++ octets_or_dash a.smp_mod)
    ∷ (codes " f89=" ++ octets_or_dash a.field_89)
    ∷ codes ")"
    ∷ []

-- the text of an ASDU
abbrev pub asdu_text : {A : Type 0} → Asdu A → List ℕ
asdu_text a = concat (asdu_parts a)

-- the text of one thing before a space
abbrev pub before_space : {X : Type 0} → (X → List ℕ) → X → List ℕ
before_space text x = text x ++ 32 ∷ []

-- the ASDUs stand in { }, divided by one space
abbrev pub sv_text : {A : Type 0} → SvPdu A → List ℕ
sv_text p = 32 ∷ 123 ∷ spaced asdu_text p.asdus ++ 125 ∷ []
