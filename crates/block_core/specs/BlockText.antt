-- A control block as a text: six fields that commas divide.
use Rattle.std.specs.Prelude.{◌≡◌, ℕ, Bool, true, false, List, [], ◌∷◌, Option, Some, None, Result, Ok, Err}
use Rattle.block_core.specs.declared.block.Block.{Block}
use Rattle.block_core.specs.declared.block_text.BlockError.{BlockError}
use Rattle.block_core.specs.declared.block_text.BlockError.TheVariants as refused
use Rattle.block_core.specs.Commas.{comma_fields, number_by, text_in, word_in}

-- a goID that is looked at, unless it is empty
abbrev pub go_id_of : List ℕ → Option (List ℕ)
go_id_of [] = None
go_id_of (c ∷ cs) = Some (c ∷ cs)

-- whether the texts of a control block have something to keep in memory: gocbRef, datSet, and goID where there is one
abbrev pub texts_keep : List ℕ → List ℕ → Option (List ℕ) → Bool
texts_keep [] [] None = false
texts_keep _ _ _ = true

-- a block of these fields, where each of them says something
abbrev pub block_with : {A : Type 0} → Option ℕ → Option (List ℕ) → Option (List ℕ) → Option (List ℕ) → Option ℕ → Option ℕ → Option (Block A)
block_with (Some app_id) (Some gocb_ref) (Some dat_set) (Some go_id) (Some conf_rev) (Some entries) =
    Some (record { app_id = app_id; gocb_ref = gocb_ref; dat_set = dat_set; go_id = go_id_of go_id; conf_rev = conf_rev; entries = entries })
block_with _ _ _ _ _ _ = None

-- APPID by four hexadecimal digits, gocbRef, datSet, goID (empty: not looked at), confRev and the count of entries in decimal
abbrev pub block_of : {A : Type 0} → List (List ℕ) → Option (Block A)
block_of (app_id ∷ gocb_ref ∷ dat_set ∷ go_id ∷ conf_rev ∷ entries ∷ []) =
    block_with (word_in app_id) (text_in gocb_ref) (text_in dat_set) (text_in go_id) (number_by conf_rev) (number_by entries)
block_of _ = None

-- the block that a text says, if it says one
abbrev pub block_in : {A : Type 0} → List ℕ → Option (Block A)
block_in text = block_of (comma_fields text)

-- whether a text says a block that has something to keep
abbrev pub block_keeps : {A : Type 0} → Option (Block A) → Bool
block_keeps None = false
block_keeps (Some b) = texts_keep b.gocb_ref b.dat_set b.go_id

-- the answer is the block that the text says, or that it says none, or memory was wanted where it has something to keep
abbrev pub AnswersBlock : {A : Type 0} → Result (Block A) BlockError → Option (Block A) → Type 0
AnswersBlock (Ok block) said = said ≡ Some block
AnswersBlock (Err refused.BlockForm) said = said ≡ None
AnswersBlock (Err (refused.Memory e)) said = block_keeps said ≡ true
