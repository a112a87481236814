-- The texts of control blocks: each is visible, and those that are BLOCKs are read as the block of their frame.
use Rattle.std.proofs.Common.{◌≡◌, ℕ, ◌<◌, true, false, Option, Some, None, List, [], ◌∷◌, length, drop, get_or, Result, Ok, Err, inl, inr, ap, sym, ◌∙◌, refl, arith}
use Rattle.std.specs.Prelude.{IfSome, codes, ◌==◌, option_map}
use Rattle.std.specs.List.{AllByRecursion, concat, onto_first}
use Rattle.std.proofs.lemmas.Bool.{cases_Bool, cond-false, cond_both, false≢true}
use Rattle.std.proofs.lemmas.List.Elements.{All-get_or}
use Rattle.std.proofs.lemmas.Option.{none-some, same_Some}
use Rattle.hex.specs.Hex.{decode_sized, is_hex_digit}
use Rattle.hex.specs.declared.error.FromHexError.{FromHexError}
use Rattle.hex.proofs.HexLemmas.{decode_of-ok, decode_sized-ok, decode_sized-twice}
use Rattle.ber_core.specs.Contents.{AreVisible}
use Rattle.list_core.specs.Cuts.{cut_at}
use Rattle.list_core.specs.EventLine.{decoded}
use Rattle.list_core.proofs.Cuts.{cut_some}
use Rattle.block_core.specs.declared.block.Block.{Block}
use Rattle.block_core.specs.BlockText.{block_in, block_of, block_with}
use Rattle.block_core.specs.Commas.{number_by, text_in, word_in}
use Rattle.pdu_core.specs.declared.goose.GoosePdu.{GoosePdu}
use Rattle.pdu_core.specs.Spellable.{IsSpellableGoose}
use Rattle.inventory_engine.specs.Configuration.{Configuration, configuration_of}
use Rattle.inventory_engine.specs.Sightings.{block_parts, block_text, has_fields, named_parts, stream_parts, text_or_none}
use Rattle.inventory_engine.specs.Laws.{block_told}
use Rattle.joint_laws.proofs.object_lemmas.PlainTexts.{are_plain}
use Rattle.joint_laws.proofs.line_lemmas.Visible.{all_visible, decimal_visible, four_visible, quoted_or_dash_visible, quoted_visible, visible_both}
use Rattle.inventory_engine.proofs.BlockBack.{blocks_back}

-- ---- it is visible

words_visible : (parts : List (List ℕ)) → AllByRecursion AreVisible parts → AreVisible (concat parts)
words_visible [] h = tt
words_visible (x ∷ parts) h = visible_both x (concat parts) h.0 (words_visible parts h.1)

none_visible : (id : Option (List ℕ)) → IfSome id AreVisible → AreVisible (text_or_none id)
none_visible None h = tt
none_visible (Some id) h = h

pub block_visible : {A : Type 0} (app_id : ℕ) (p : GoosePdu A) → app_id < 65536 → IsSpellableGoose p → AreVisible (block_text (configuration_of app_id p))
block_visible app_id p small spelled =
    let app = four_visible app_id small in
    let comma = all_visible (codes ",") refl in
    let rev = decimal_visible p.conf_rev (omega (arith, spelled.conf_rev)) in
    let count = decimal_visible (length p.members) (omega (arith, spelled.entries)) in
    let ref = quoted_visible p.gocb_ref spelled.gocb_ref in
    let set = quoted_visible p.dat_set spelled.dat_set in
    let id = quoted_or_dash_visible p.go_id spelled.go_id in
    let word = λ (w : List ℕ) (h : are_plain w ≡ true). all_visible w h in
    let block = configuration_of app_id p in
    cond_both (has_fields block) (concat (block_parts block)) (concat (named_parts block)) AreVisible
    (λ has. words_visible (block_parts block) (app, (comma, (spelled.gocb_ref, (comma, (spelled.dat_set, (comma, (none_visible p.go_id spelled.go_id, (comma, (rev, (comma, (count, tt))))))))))))
    (λ lacks. words_visible (named_parts block)
    (word (codes "appid=") refl, (app, (word (codes " ref=") refl, (ref, (word (codes " set=") refl, (set, (word (codes " id=") refl, (id, (word (codes " rev=") refl, (rev, (word (codes " entries=") refl, (count, tt)))))))))))))

-- ---- what is a BLOCK

-- a word is four hexadecimal digits, so that what has another octet is none
unmapped : {X Y : Type 0} (f : X → Y) (o : Option X) → o ≡ None → option_map f o ≡ None
unmapped f None e = refl
unmapped f (Some x) e = absurd (none-some x (sym e))

no_octets_in : (w : List ℕ) (k : ℕ) (r : Result (List ℕ) FromHexError) → k < length w → is_hex_digit (get_or w k 0) ≡ false → decode_sized w 2 ≡ r → decoded r ≡ None
no_octets_in w k (Err e) within other is = refl
no_octets_in w k (Ok octets) within other is =
    let digits = (decode_of-ok w octets (sym (decode_sized-twice w 2 (decode_sized-ok w 2 octets is)) ∙ is)).1 in
    let digit : is_hex_digit (get_or w k 0) ≡ true = All-get_or (λ x. is_hex_digit x ≡ true) w k 0 within digits in
    absurd (false≢true (sym other ∙ digit))

no_word : (w : List ℕ) (k : ℕ) → k < length w → is_hex_digit (get_or w k 0) ≡ false → word_in w ≡ None
no_word w k within other = unmapped _ _ (no_octets_in w k (decode_sized w 2) within other refl)

not_of : {A : Type 0} (w : List ℕ) (parts : List (List ℕ)) → word_in w ≡ None → block_of {A = A} (w ∷ parts) ≡ None
not_of {A} w (a ∷ b ∷ c ∷ d ∷ e ∷ []) h = ap (λ (o : Option ℕ). block_with {A = A} o (text_in a) (text_in b) (text_in c) (number_by d) (number_by e)) h
not_of _ _ _ = refl

-- a text that begins with `ap` or `id` is no BLOCK
no_block : (A : Type 0) (x y : ℕ) (rest : List ℕ) → (x == 44) ≡ false → (y == 44) ≡ false → (k : ℕ) → k < 2 → ((p : List ℕ) → is_hex_digit (get_or (x ∷ y ∷ p) k 0) ≡ false) → block_in {A = A} (x ∷ y ∷ rest) ≡ None
no_block A x y rest first second k within other =
    let w = cut_some 44 rest in
    let later : cut_at 44 (y ∷ rest) ≡ (y ∷ w.0) ∷ w.1 = cond-false (y == 44) ([] ∷ cut_at 44 rest) (onto_first y (cut_at 44 rest)) second ∙ ap (onto_first y) w.2 in
    let cut : cut_at 44 (x ∷ y ∷ rest) ≡ (x ∷ y ∷ w.0) ∷ w.1 = cond-false (x == 44) ([] ∷ cut_at 44 (y ∷ rest)) (onto_first x (cut_at 44 (y ∷ rest))) first ∙ ap (onto_first x) later in
    ap (block_of {A = A}) cut ∙ not_of (x ∷ y ∷ w.0) w.1 (no_word (x ∷ y ∷ w.0) k (omega arith) (other w.0))

no_name : (A : Type 0) (b : Configuration) → block_in {A = A} (concat (named_parts b)) ≡ None
no_name A b = no_block A 97 112 (drop 2 (concat (named_parts b))) refl refl 1 (omega arith) (λ p. refl)

pub no_stream : (A : Type 0) (conf_rev : ℕ) (sv_id : List ℕ) → block_in {A = A} (concat (stream_parts conf_rev sv_id)) ≡ None
no_stream A conf_rev sv_id = no_block A 105 100 (drop 2 (concat (stream_parts conf_rev sv_id))) refl refl 0 (omega arith) (λ p. refl)

-- where the text of a control block is a BLOCK, it says the block of its frame
pub block_says : {A : Type 0} (app_id : ℕ) (p : GoosePdu (Unit {0})) (block : Block A) → app_id < 65536 → IsSpellableGoose p → block_in (block_text (configuration_of app_id p)) ≡ Some block → block ≡ block_told (configuration_of app_id p)
block_says {A} app_id p block small spelled says =
    let b = configuration_of app_id p in
    elim (cases_Bool (has_fields b)) [
      | inl has ↦ same_Some block (block_told b) (sym says ∙ blocks_back app_id p small spelled has)
      | inr lacks ↦
          let text : block_text b ≡ concat (named_parts b) = cond-false (has_fields b) (concat (block_parts b)) (concat (named_parts b)) lacks in
          absurd (none-some block (sym (no_name A b) ∙ (ap (λ (t : List ℕ). block_in {A = A} t) (sym text) ∙ says)))
    ]
