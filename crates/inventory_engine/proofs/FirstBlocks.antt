-- The control blocks that are listed: what sightings add, and that what is computed is what is defined.
use Rattle.std.proofs.Common.{◌≡◌, ◌∙◌, ℕ, zero, suc, true, Option, Some, None, Result, Ok, List, [], ◌∷◌, ◌++◌, length, map, take, slice_get, ap, ap₂, sym, refl, subst, append_assoc, is_some, arith}
use Rattle.std.specs.Prelude.{OnOk}
use Rattle.std.specs.List.{cons_option, flat_map}
use Rattle.std.proofs.lemmas.List.{append-nil, map-append}
use Rattle.std.proofs.lemmas.Option.{none-some, same_Some}
use Rattle.block_core.specs.declared.block.Block.{Block}
use Rattle.block_core.specs.BlockText.{block_in}
use Rattle.pdu_core.specs.declared.sampled.asdu.Asdu.{Asdu}
use Rattle.list_core.specs.declared.event.Event.{Event}
use Rattle.list_core.specs.ReadItems.{AnswerOf, Gave}
use Rattle.engine_core.specs.Input.{Reader}
use Rattle.known_core.specs.computed.Held.{InOrderFor, IsAt, IsCompact, IsGap, NoneEmpty, held}
use Rattle.known_core.proofs.OrderLemmas.{in_order_for}
use Rattle.known_core.proofs.SearchLemmas.{none_empty}
use Rattle.inventory_engine.specs.declared.known.Known.{Known}
use Rattle.inventory_engine.specs.declared.listing.FoundBlocks.{FoundBlocks}
use Rattle.inventory_engine.specs.ListedBlocks.{AreFirsts, AreFound, AreListed, EndsItems, FindsOver, IsFirstAfter, first_after, listed_of}
use Rattle.inventory_engine.specs.Sightings.{Sighting, key_of, sightings_in, sightings_of, stream_sighting, stream_sightings}
use Rattle.inventory_engine.specs.BlocksText.{IsNewest, Telling, in_lines}
use Rattle.inventory_engine.specs.computed.BlocksStep.{AppendsLines, Keeps, newest}
use Rattle.inventory_engine.specs.computed.FirstBlocks.{ListsMore, NotesSightings, firsts_by, firsts_of, named_by}
use Rattle.inventory_engine.specs.computed.KnownTexts.{InOrder, Inventory, by_key, key_cmp, known_key, known_text, text_by}
use Rattle.inventory_engine.proofs.Appending.{newest_at, newest_gap, on_success, sightings-push}
use Rattle.inventory_engine.proofs.KeyLemmas.{key_total}
use Rattle.inventory_engine.proofs.Newest.{newest_is}

-- ---- what is computed is what is defined

firsts_are : (earlier seen : List Sighting) → AreFirsts earlier seen (firsts_by earlier seen)
firsts_are earlier seen = record { sizes = sizes earlier seen; each = each earlier seen }
  where
    sizes : (earlier seen : List Sighting) → length (firsts_by earlier seen) ≡ length seen
    sizes earlier [] = refl
    sizes earlier (s ∷ seen) = ap suc (sizes (earlier ++ s ∷ []) seen)

    each : (earlier seen : List Sighting) (i : ℕ) (s : Sighting) (first : List Sighting) → slice_get seen i ≡ Some s → slice_get (firsts_by earlier seen) i ≡ Some first →
        IsFirstAfter (earlier ++ take i seen) s first
    each earlier [] i s first e f = absurd (none-some s e)
    each earlier (x ∷ seen) zero s first e f =
        let same : x ≡ s = same_Some x s e in
        let o = newest earlier (key_of x) in record {
          newest = o;
          is_newest = subst (λ (y : Sighting). IsNewest (earlier ++ []) (key_of y) o) same (subst (λ (l : List Sighting). IsNewest l (key_of x) o) (sym (append-nil earlier)) (newest_is earlier (key_of x)));
          is_first = sym (same_Some _ first f) ∙ ap (λ (y : Sighting). first_after y o) same;
        }
    each earlier (x ∷ seen) (suc i) s first e f =
        let rest = each (earlier ++ x ∷ []) seen i s first e f in
        subst (λ (l : List Sighting). IsFirstAfter l s first) (append_assoc earlier (x ∷ []) (take i seen)) rest

all_of : (earlier seen : List Sighting) → firsts_of earlier seen ≡ flat_map (λ (first : List Sighting). first) (firsts_by earlier seen)
all_of earlier [] = refl
all_of earlier (s ∷ seen) = ap (λ (l : List Sighting). first_after s (newest earlier (key_of s)) ++ l) (all_of (earlier ++ s ∷ []) seen)

listed_is : (seen : List Sighting) → AreListed seen (firsts_of [] seen)
listed_is seen = record { firsts = firsts_by [] seen; are_firsts = firsts_are [] seen; all = all_of [] seen }

pub found_is : {A : Type 0} (seen : List Sighting) (found : FoundBlocks A) → found.listed.items ≡ map listed_of (firsts_of [] seen) → found.blocks.items ≡ named_by (firsts_of [] seen) → AreFound seen found.listed.items found.blocks.items
found_is seen found listed named = record { sightings = firsts_of [] seen; are_listed = listed_is seen; is_listed = listed; are_named = named }

-- ---- sightings more

pub firsts-append : (earlier xs ys : List Sighting) → firsts_of earlier (xs ++ ys) ≡ firsts_of earlier xs ++ firsts_of (earlier ++ xs) ys
firsts-append earlier [] ys = ap (λ (l : List Sighting). firsts_of l ys) (sym (append-nil earlier))
firsts-append earlier (x ∷ xs) ys =
    let first = first_after x (newest earlier (key_of x)) in
    ap (λ (l : List Sighting). first ++ l) (firsts-append (earlier ++ x ∷ []) xs ys ∙ ap (λ (l : List Sighting). firsts_of (earlier ++ x ∷ []) xs ++ firsts_of l ys) (append_assoc earlier (x ∷ []) xs))
    ∙ sym (append_assoc first (firsts_of (earlier ++ x ∷ []) xs) (firsts_of (earlier ++ x ∷ xs) ys))

-- none of streams
stream_none : {A : Type 0} (a : Asdu A) (o : Option (List ℕ)) → first_after (stream_sighting a) o ≡ []
stream_none a None = refl
stream_none a (Some newest) = refl

pub streams_none : {A : Type 0} (earlier : List Sighting) (asdus : List (Asdu A)) → firsts_of earlier (stream_sightings asdus) ≡ []
streams_none earlier [] = refl
streams_none earlier (a ∷ asdus) = ap₂ (λ (l m : List Sighting). l ++ m) (stream_none a (newest earlier (key_of (stream_sighting a)))) (streams_none (earlier ++ stream_sighting a ∷ []) asdus)

pub named-append : {A : Type 0} (xs ys : List Sighting) → named_by {A = A} (xs ++ ys) ≡ named_by xs ++ named_by ys
named-append {A = A} [] ys = refl
named-append {A = A} (x ∷ xs) ys = go (block_in {A = A} x.text) (named-append xs ys)
  where
    go : (o : Option (Block A)) → named_by {A = A} (xs ++ ys) ≡ named_by xs ++ named_by ys → cons_option o (named_by (xs ++ ys)) ≡ cons_option o (named_by xs) ++ named_by ys
    go None e = e
    go (Some b) e = ap (λ (l : List (Block A)). b ∷ l) e

pub lists_none : {A : Type 0} (found : FoundBlocks A) → ListsMore [] found found
lists_none found = record { listed = sym (append-nil found.listed.items); blocks = sym (append-nil found.blocks.items) }

-- what sightings add to what was listed of others
pub lists_on : {A : Type 0} (seen more : List Sighting) (old new : FoundBlocks A) → old.listed.items ≡ map listed_of (firsts_of [] seen) → old.blocks.items ≡ named_by (firsts_of [] seen) → ListsMore (firsts_of seen more) old new
    → (new.listed.items ≡ map listed_of (firsts_of [] (seen ++ more))) × (new.blocks.items ≡ named_by (firsts_of [] (seen ++ more)))
lists_on {A = A} seen more old new listed blocks add =
    let firsts = firsts_of [] seen in
    let others = firsts_of seen more in
    let all = firsts-append [] seen more in (
      add.listed ∙ ap (λ l. l ++ map (listed_of {A = A}) others) listed ∙ sym (map-append (listed_of {A = A}) firsts others) ∙ ap (map (listed_of {A = A})) (sym all),
      add.blocks ∙ ap (λ (l : List (Block A)). l ++ named_by others) blocks ∙ sym (named-append firsts others) ∙ ap (named_by {A = A}) (sym all),
    )

-- ---- one control block

module _ {A : Type 0} (s : Sighting) (known : Inventory A) where
  -- what is listed of it alone
  alone : (earlier : List Sighting) (o : Option (List ℕ)) → newest earlier (key_of s) ≡ o → firsts_of earlier (s ∷ []) ≡ first_after s o
  alone earlier o e = append-nil (first_after s (newest earlier (key_of s))) ∙ ap (first_after s) e

  -- one with its key is known
  pub lists_known : (d : Known A) (at : ℕ) (found : FoundBlocks A) → IsAt (by_key (key_of s)) (held known) at → (earlier : List Sighting) → Keeps known earlier → ListsMore (firsts_of earlier (s ∷ [])) found found
  lists_known d at found is earlier k = subst (λ (l : List Sighting). ListsMore l found found) (sym (alone earlier _ (newest_at (in_lines 0) s known earlier at d k is))) (lists_none found)

  -- none is
  pub lists_first : (at : ℕ) (old new : FoundBlocks A) → is_some s.app_id ≡ true → (NoneEmpty known → InOrderFor (by_key (key_of s)) (held known) → IsGap (by_key (key_of s)) (held known) at) → ListsMore (s ∷ []) old new
      → (earlier : List Sighting) → Keeps known earlier → ListsMore (firsts_of earlier (s ∷ [])) old new
  lists_first at old new is_block gap more earlier k =
      let g = gap (none_empty known k.runs) (in_order_for key_cmp key_total known_key (held known) k.order (key_of s)) in
      let one : firsts_of earlier (s ∷ []) ≡ s ∷ [] = alone earlier _ (newest_gap (in_lines 0) s known earlier at k g) ∙ rw is_block refl in
      subst (λ (l : List Sighting). ListsMore l old new) (sym one) more

-- ---- what an event shows

-- it was written, and its first blocks were listed
pub notes : {A T E : Type 0} (r : Result T E) (how : Telling) (seen : List Sighting) (known after : Inventory A) (line written : List ℕ) (old new : FoundBlocks A)
    → ((earlier : List Sighting) → Keeps known earlier → ListsMore (firsts_of earlier seen) old new) → OnOk r (AppendsLines how seen known after line written) → OnOk r (NotesSightings seen known after old new)
notes r how seen known after line written old new lists wrote = on_success r (AppendsLines how seen known after line written) (NotesSightings seen known after old new) (λ w earlier k. ((w earlier k).1, lists earlier k)) wrote

-- streams list none
pub streams_list_none : {A B : Type 0} (known : Inventory A) (found : FoundBlocks A) (asdus : List (Asdu B)) (earlier : List Sighting) → Keeps known earlier → ListsMore (firsts_of earlier (stream_sightings asdus)) found found
streams_list_none known found asdus earlier k = subst (λ (l : List Sighting). ListsMore l found found) (sym (streams_none earlier asdus)) (lists_none found)

-- the same of sightings that are these by an equation
pub notes_as : {A T E : Type 0} (r : Result T E) (xs ys : List Sighting) (known after : Inventory A) (old new : FoundBlocks A) → xs ≡ ys → OnOk r (NotesSightings xs known after old new) → OnOk r (NotesSightings ys known after old new)
notes_as r xs ys known after old new e h = subst (λ (l : List Sighting). OnOk r (NotesSightings l known after old new)) e h

-- ---- the events of a reader

gave_push : {I X F : Type 0} (answers : I → AnswerOf X F → I → Type 0) (a b c : I) (es : List (ℕ × X)) (e : ℕ × X) → Gave answers a es b → answers b (Ok (Some e)) c → Gave answers a (es ++ e ∷ []) c
unfolding Gave
gave_push answers a b c [] e p q = (c, subst (λ x. answers x (Ok (Some e)) c) (sym p) q, refl)
gave_push answers a b c (x ∷ es) e p q = (p.0, p.1, gave_push answers p.0 b c es e p.2 q)

gave_none : {I X F : Type 0} (answers : I → AnswerOf X F → I → Type 0) (a : I) → Gave answers a [] a
unfolding Gave
gave_none answers a = refl

-- what has been found of the events that a reader gave
pub record HasFound {A I F : Type 0} (answers : I → AnswerOf (Event A) F → I → Type 0) (start now : I) (known : Inventory A) (found : FoundBlocks A) : Type 0 where
  pub items : List (ℕ × Event A)
  pub gave : Gave answers start items now
  pub keeps : Keeps known (sightings_in items)
  pub listed : found.listed.items ≡ map listed_of (firsts_of [] (sightings_in items))
  pub blocks : found.blocks.items ≡ named_by (firsts_of [] (sightings_in items))

module _ {A I F : Type 0} (answers : I → AnswerOf (Event A) F → I → Type 0) (start : I) where
  -- none yet
  pub found_none : (known : Inventory A) (found : FoundBlocks A) → held known ≡ [] → IsCompact known → found.listed.items ≡ [] → found.blocks.items ≡ [] → HasFound answers start start known found
  found_none known found none compact listed blocks = record {
    items = [];
    gave = gave_none answers start;
    keeps = record {
      runs = compact;
      order = subst (λ (l : List (Known A)). InOrder l) (sym none) (λ i j d less within. absurd (omega (arith, within)));
      same = λ key. ap (λ (l : List (Known A)). text_by known_key known_text l key) none;
    };
    listed = listed;
    blocks = blocks;
  }

  -- one event more
  pub found_more : (now next : I) (known after : Inventory A) (old new : FoundBlocks A) (e : ℕ × Event A) → HasFound answers start now known old → answers now (Ok (Some e)) next
      → NotesSightings (sightings_of e.1.kind) known after old new → HasFound answers start next after new
  found_more now next known after old new e h answered noted =
      let seen = sightings_in h.items in
      let step = noted seen h.keeps in
      let pushed = sym (sightings-push h.items e) in
      let on = lists_on seen (sightings_of e.1.kind) old new h.listed h.blocks step.1 in
      record {
        items = h.items ++ e ∷ [];
        gave = gave_push answers start now next h.items e h.gave answered;
        keeps = subst (λ (l : List Sighting). Keeps after l) pushed step.0;
        listed = on.0 ∙ ap (λ (l : List Sighting). map (listed_of {A = A}) (firsts_of [] l)) pushed;
        blocks = on.1 ∙ ap (λ (l : List Sighting). named_by (firsts_of [] l)) pushed;
      }

-- and the answer that ends them
pub finds : {A I C F : Type 0} (reader : Reader I (Event A) C F) (start now end : I) (known : Inventory A) (found : FoundBlocks A) (answer : AnswerOf (Event A) F) → HasFound reader.answers start now known found → reader.answers now answer end → EndsItems answer
    → FindsOver reader start end found.listed.items found.blocks.items
finds reader start now end known found answer h answered ends = record {
  items = h.items;
  answer = answer;
  gave = record { before = now; gave = h.gave; answered = answered };
  ends = ends;
  found = found_is (sightings_in h.items) found h.listed h.blocks;
}
