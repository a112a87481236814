-- What rows hold of arguments: under each name the texts that were given so, in their order.
use Rattle.std.proofs.Common.{◌≡◌, ◌∙◌, ◌≤◌, ◌⊎◌, Bool, true, false, true≢false, List, [], ◌∷◌, ◌++◌, length, Option, Some, None, is_some, option_map, unwrap_or, inl, inr, refl, sym, ap, subst, arith, length-append, ◌+◌, ◌==◌, ℕ, zero, suc, not, append_assoc}
use Rattle.std.specs.Prelude.{codes, fold, if◌then◌else◌, nat_lt}
use Rattle.std.specs.List.{list_all}
use Rattle.std.specs.Str.{bytes_eq, chars}
use Rattle.std.proofs.lemmas.List.{append-nil}
use Rattle.std.proofs.lemmas.Slice.Eq.{bytes_eq-Decides}
use Rattle.clap.specs.Words.{Row, Shape, Text, Rule}
use Rattle.clap.specs.Walk.{arg_by_id, has_row, reading_by, stronger, with_values, without, Held, Waiting, Walk, arg_by_long, arg_by_short, bundle_met, finished, idle, most_values, nothing_held, option, pending_count, rows_after, takes_values, used, walk, walk_from, walked, with_default}
use Rattle.clap.specs.declared.builder.value_parser.Reading.{Reading}
use Rattle.clap.specs.declared.parser.matches.ValueSource.TheVariants.{CommandLine}
use Rattle.words_core.specs.RequestLine.{Argument, argument_name, argument_text, given_as, read_rule, SayAll, Says, SaysByLetter, Switch, file, is_attached, is_set, switch_name}
use Rattle.words_core.proofs.Switches.{has_at, more_other, new_row, row_at, self_eq, set_other, set_own, read_flag, set_by, switch_flag, Pending, between, both_true, dashes, held, meets_none, passes_behind, settled_to, settles, state}
use Rattle.std.specs.Char.{encode_utf8}
use Rattle.std.proofs.lemmas.List.Sums.{fold-append}
use Rattle.clap.specs.Lexer.{long_of, usize_max}
use Rattle.clap.specs.Takes.{default_passes, flags_pass, is_valid, level_passes, settle_passes, turn_passes, use_passes, walk_passes}
use Rattle.clap.proofs.WalkLemmas.{both}
use Rattle.words_core.specs.CommandLine.{IsValue, SaysOption, is_flag}
use Rattle.words_core.proofs.LoneFlags.{IsEnd}

-- ---- what is given under a name

abbrev with_text : Bool → Text → List Text → List Text
with_text true t texts = t ∷ texts
with_text false t texts = texts

pub given_first : (name : Text) (a : Argument) (more : List Argument) → given_as name (a ∷ more) ≡ with_text (bytes_eq (argument_name a) name) (argument_text a) (given_as name more)
given_first name a more =
    (elim (bytes_eq (argument_name a) name) as (λ (b : Bool). bytes_eq (argument_name a) name ≡ b → given_as name (a ∷ more) ≡ with_text b (argument_text a) (given_as name more)) [ true ↦ λ t. rw t refl | false ↦ λ t. rw t refl ]) refl

with_append : (b : Bool) (t : Text) (xs ys : List Text) → with_text b t (xs ++ ys) ≡ with_text b t xs ++ ys
with_append true t xs ys = refl
with_append false t xs ys = refl

pub given_append : (name : Text) (first second : List Argument) → given_as name (first ++ second) ≡ given_as name first ++ given_as name second
given_append name [] second = refl
given_append name (a ∷ first) second =
    given_first name a (first ++ second) ∙ ap (with_text (bytes_eq (argument_name a) name) (argument_text a)) (given_append name first second)
    ∙ with_append (bytes_eq (argument_name a) name) (argument_text a) (given_as name first) (given_as name second)
    ∙ ap (λ (l : List Text). l ++ given_as name second) (sym (given_first name a first))

-- where an argument's name is given once in all, nothing is given under it before
pub none_before : (done rest : List Argument) (a : Argument) → length (given_as (argument_name a) (done ++ a ∷ rest)) ≤ 1 → given_as (argument_name a) done ≡ []
none_before done rest a once = go (given_as (argument_name a) done) refl
  where
    own : given_as (argument_name a) (a ∷ rest) ≡ argument_text a ∷ given_as (argument_name a) rest
    own = given_first (argument_name a) a rest ∙ ap (λ (b : Bool). with_text b (argument_text a) (given_as (argument_name a) rest)) (self_eq (argument_name a))

    all : given_as (argument_name a) (done ++ a ∷ rest) ≡ given_as (argument_name a) done ++ (argument_text a ∷ given_as (argument_name a) rest)
    all = given_append (argument_name a) done (a ∷ rest) ∙ ap (λ (l : List Text). given_as (argument_name a) done ++ l) own

    go : (l : List Text) → given_as (argument_name a) done ≡ l → l ≡ []
    go [] e = refl
    go (x ∷ xs) e =
        let size = ap length (all ∙ ap (λ (k : List Text). k ++ (argument_text a ∷ given_as (argument_name a) rest)) e) in
        let more = length-append (x ∷ xs) (argument_text a ∷ given_as (argument_name a) rest) in
        absurd (omega (arith, once, size, more))

-- ---- what rows hold

-- the row of these texts
abbrev pub row_for : Text → Reading → List Text → Option Row
row_for id how [] = None
row_for id how (t ∷ ts) = Some (new_row id how CommandLine (t ∷ ts))

-- how a command reads what is given under a name
abbrev pub how_read : Shape → Text → Reading
how_read s id = reading_by (unwrap_or (arg_by_id s.rules id) read_rule)

-- rows hold these arguments
abbrev pub Hold : Shape → List Row → List Argument → Type 0
Hold s rows done = (id : Text) → row_at id rows ≡ row_for id (how_read s id) (given_as id done)

-- rows with a text more: behind those of the same name, or in their place
abbrev pub puts : Bool → Text → Reading → Text → List Row → List Row
puts true id how t rows = with_values id how CommandLine (t ∷ []) rows
puts false id how t rows = with_values id how CommandLine (t ∷ []) (without id rows)

more_row : (id : Text) (how : Reading) (t : Text) (ts : List Text) (rows : List Row) → row_at id rows ≡ row_for id how ts
    → row_at id (with_values id how CommandLine (t ∷ []) rows) ≡ Some (new_row id how CommandLine (ts ++ t ∷ []))
more_row id how t [] [] e = let same = self_eq id in rw same refl
more_row id how t (x ∷ xs) [] e = cc
more_row id how t ts (r ∷ rows) e = go (bytes_eq r.id id) refl (more_row id how t ts rows)
  where
    grown : (q : Row) (l : List Text) → Some q ≡ row_for id how l → Some (record q { values = q.values ++ t ∷ []; source = Some (stronger q.source CommandLine) }) ≡ Some (new_row id how CommandLine (l ++ t ∷ []))
    grown q [] f = cc
    grown q (x ∷ xs) f = ap (λ (o : Option Row). Some (record (unwrap_or o q) { values = (unwrap_or o q).values ++ t ∷ []; source = Some (stronger (unwrap_or o q).source CommandLine) })) f

    go : (b : Bool) → bytes_eq r.id id ≡ b → (row_at id rows ≡ row_for id how ts → row_at id (with_values id how CommandLine (t ∷ []) rows) ≡ Some (new_row id how CommandLine (ts ++ t ∷ [])))
        → row_at id (with_values id how CommandLine (t ∷ []) (r ∷ rows)) ≡ Some (new_row id how CommandLine (ts ++ t ∷ []))
    go true u later = rw u (rw u (grown r ts (rw u at e)))
    go false u later = rw u (rw u (later (rw u at e)))

some_row : (id : Text) (how : Reading) (ts : List Text) (t : Text) → Some (new_row id how CommandLine (ts ++ t ∷ [])) ≡ row_for id how (ts ++ t ∷ [])
some_row id how [] t = refl
some_row id how (x ∷ xs) t = refl

-- a text more under its own name
own_row : (appends : Bool) (id : Text) (how : Reading) (t : Text) (ts : List Text) (rows : List Row) → row_at id rows ≡ row_for id how ts → (appends ≡ true) ⊎ (ts ≡ [])
    → row_at id (puts appends id how t rows) ≡ row_for id how (ts ++ t ∷ [])
own_row true id how t ts rows e may = more_row id how t ts rows e ∙ some_row id how ts t
own_row false id how t ts rows e (inl bad) = absurd (true≢false (sym bad))
own_row false id how t ts rows e (inr none) =
    set_own id how CommandLine (t ∷ []) rows (e ∙ ap (row_for id how) none) ∙ ap (λ (l : List Text). row_for id how (l ++ t ∷ [])) (sym none)

other_row : (appends : Bool) (id other : Text) (how : Reading) (t : Text) (rows : List Row) → bytes_eq id other ≡ false → row_at other (puts appends id how t rows) ≡ row_at other rows
other_row true id other how t rows apart = more_other id other apart how CommandLine (t ∷ []) rows
other_row false id other how t rows apart = set_other id other apart how CommandLine (t ∷ []) rows

-- and so rows hold an argument more
pub hold_more : (s : Shape) (rows : List Row) (done : List Argument) (a : Argument) (appends : Bool) → (appends ≡ true) ⊎ (given_as (argument_name a) done ≡ []) → Hold s rows done
    → Hold s (puts appends (argument_name a) (how_read s (argument_name a)) (argument_text a) rows) (done ++ a ∷ [])
hold_more s rows done a appends may hold id = go (bytes_eq (argument_name a) id) refl
  where
    more : given_as id (done ++ a ∷ []) ≡ given_as id done ++ with_text (bytes_eq (argument_name a) id) (argument_text a) []
    more = given_append id done (a ∷ []) ∙ ap (λ (l : List Text). given_as id done ++ l) (given_first id a [])

    own : row_at (argument_name a) (puts appends (argument_name a) (how_read s (argument_name a)) (argument_text a) rows)
        ≡ row_for (argument_name a) (how_read s (argument_name a)) (given_as (argument_name a) done ++ argument_text a ∷ [])
    own = own_row appends (argument_name a) (how_read s (argument_name a)) (argument_text a) (given_as (argument_name a) done) rows (hold (argument_name a)) may

    go : (b : Bool) → bytes_eq (argument_name a) id ≡ b
        → row_at id (puts appends (argument_name a) (how_read s (argument_name a)) (argument_text a) rows) ≡ row_for id (how_read s id) (given_as id (done ++ a ∷ []))
    go true t =
        subst (λ (x : Text). row_at x (puts appends (argument_name a) (how_read s (argument_name a)) (argument_text a) rows) ≡ row_for x (how_read s x) (given_as x done ++ argument_text a ∷ [])) ((bytes_eq-Decides (argument_name a) id).0 t) own
        ∙ ap (row_for id (how_read s id)) (sym (more ∙ ap (λ (b : Bool). given_as id done ++ with_text b (argument_text a) []) t))
    go false t =
        other_row appends (argument_name a) id (how_read s (argument_name a)) (argument_text a) rows t ∙ hold id
        ∙ ap (row_for id (how_read s id)) (sym (append-nil (given_as id done)) ∙ sym (more ∙ ap (λ (b : Bool). given_as id done ++ with_text b (argument_text a) []) t))

-- what is not given has no row
pub no_row : (s : Shape) (rows : List Row) (done : List Argument) (id : Text) → Hold s rows done → given_as id done ≡ [] → has_row id rows ≡ false
no_row s rows done id hold none = has_at id rows ∙ ap is_some (hold id ∙ ap (row_for id (how_read s id)) none)

-- the texts of a row
pub row_texts : (id : Text) (how : Reading) (ts : List Text) → unwrap_or (option_map (λ r. r.values) (row_for id how ts)) [] ≡ ts
row_texts id how [] = refl
row_texts id how (t ∷ ts) = refl

-- texts that are all this one, and at most once
abbrev pub are_true : List Text → Bool
are_true = list_all (bytes_eq (codes "true"))

-- ---- arguments lead a walk over their words from rows that hold those before to rows that hold them too

abbrev pub is_free : Waiting → Bool
is_free (option id) = false
is_free _ = true

abbrev pub size_of : Pending → ℕ
size_of None = 0
size_of (Some p) = length p.1

-- between two arguments, at rows that are these with what is pending, of which there are at most so many texts
pub record Stands (s : Shape) (w : Walk) (rows_so : List Row) (n : ℕ) : Type 0 where
  pub waiting : Waiting
  pub rows : List Row
  pub pending : Pending
  pub is : w ≡ state waiting rows pending
  pub free : is_free waiting ≡ true
  pub settled : settled_to s rows pending ≡ rows_so
  pub settling : settles s rows pending ≡ true
  pub few : size_of pending ≤ n

-- words pass, and lead there
pub record Went (s : Shape) (w : Walk) (words : List Text) (rows_so : List Row) (n : ℕ) : Type 0 where
  pub stands : Stands s (fold (walked s.rules []) w words) rows_so n
  pub passes : walk_passes s [] w words ≡ true

pub went_to : (s : Shape) (w : Walk) (words : List Text) (waiting : Waiting) (rows : List Row) (pending : Pending) (rows_so : List Row) (n : ℕ) → is_free waiting ≡ true → fold (walked s.rules []) w words ≡ state waiting rows pending
    → settled_to s rows pending ≡ rows_so → settles s rows pending ≡ true → size_of pending ≤ n → walk_passes s [] w words ≡ true → Went s w words rows_so n
went_to s w words waiting rows pending rows_so n free is settled settling few passes =
    record { stands = record { waiting = waiting; rows = rows; pending = pending; is = is; free = free; settled = settled; settling = settling; few = few }; passes = passes }

-- ---- an argument with a text, in one word or in two

pub record Joins (s : Shape) (a : Rule) (t word : Text) : Type 0 where
  pub walks : (waiting : Waiting) (rows : List Row) (pending : Pending) → walked s.rules [] (state waiting rows pending) word ≡ between (used a (t ∷ []) (settled_to s rows pending)) None
  pub passes : (waiting : Waiting) (rows : List Row) (pending : Pending) → settles s rows pending ≡ true → use_passes false a (t ∷ []) (settled_to s rows pending) ≡ true
      → turn_passes s [] (state waiting rows pending) word ≡ true

pub record Announces (s : Shape) (a : Rule) (t word : Text) : Type 0 where
  pub walks : (waiting : Waiting) (rows : List Row) (pending : Pending)
      → walked s.rules [] (walked s.rules [] (state waiting rows pending) word) t ≡ between (settled_to s rows pending) (Some (a.id, t ∷ []))
  pub passes : (waiting : Waiting) (rows : List Row) (pending : Pending) → settles s rows pending ≡ true → walk_passes s [] (state waiting rows pending) (word ∷ t ∷ []) ≡ true
  pub settled : (rows : List Row) → settled_to s rows (Some (a.id, t ∷ [])) ≡ used a (t ∷ []) rows
  pub settling : (rows : List Row) → use_passes false a (t ∷ []) rows ≡ true → settles s rows (Some (a.id, t ∷ [])) ≡ true

abbrev pub Spelled : Shape → Rule → Text → List Text → Type 0
Spelled s a t words = ((word : Text) × (words ≡ word ∷ []) × Joins s a t word) ⊎ ((word : Text) × (words ≡ word ∷ t ∷ []) × Announces s a t word)

joined_goes : (s : Shape) (a : Rule) (t word : Text) → Joins s a t word → (w : Walk) (rows_so : List Row) (n : ℕ) → Stands s w rows_so n → use_passes false a (t ∷ []) rows_so ≡ true
    → Went s w (word ∷ []) (used a (t ∷ []) rows_so) (n + 1)
unfolding walk_passes
joined_goes s a t word j w rows_so n st pass =
    let pass_here = subst (λ (r : List Row). use_passes false a (t ∷ []) r ≡ true) (sym st.settled) pass in
    went_to s w (word ∷ []) idle (used a (t ∷ []) (settled_to s st.rows st.pending)) None (used a (t ∷ []) rows_so) (n + 1) refl
    (ap (λ (x : Walk). walked s.rules [] x word) st.is ∙ j.walks st.waiting st.rows st.pending) (ap (used a (t ∷ [])) st.settled) refl (omega arith)
    (both_true _ _ (subst (λ (x : Walk). turn_passes s [] x word ≡ true) (sym st.is) (j.passes st.waiting st.rows st.pending st.settling pass_here)) refl)

announced_goes : (s : Shape) (a : Rule) (t word : Text) → Announces s a t word → (w : Walk) (rows_so : List Row) (n : ℕ) → Stands s w rows_so n → use_passes false a (t ∷ []) rows_so ≡ true
    → Went s w (word ∷ t ∷ []) (used a (t ∷ []) rows_so) (n + 2)
announced_goes s a t word j w rows_so n st pass =
    let pass_here = subst (λ (r : List Row). use_passes false a (t ∷ []) r ≡ true) (sym st.settled) pass in
    let rows = settled_to s st.rows st.pending in
    went_to s w (word ∷ t ∷ []) idle rows (Some (a.id, t ∷ [])) (used a (t ∷ []) rows_so) (n + 2) refl
    (ap (λ (x : Walk). walked s.rules [] (walked s.rules [] x word) t) st.is ∙ j.walks st.waiting st.rows st.pending) (j.settled rows ∙ ap (used a (t ∷ [])) st.settled) (j.settling rows pass_here) (omega arith)
    (subst (λ (x : Walk). walk_passes s [] x (word ∷ t ∷ []) ≡ true) (sym st.is) (j.passes st.waiting st.rows st.pending st.settling))

pub spelled_goes : (s : Shape) (a : Rule) (t : Text) (words : List Text) → Spelled s a t words → (w : Walk) (rows_so : List Row) (n : ℕ) → Stands s w rows_so n → use_passes false a (t ∷ []) rows_so ≡ true
    → Went s w words (used a (t ∷ []) rows_so) (n + length words)
spelled_goes s a t words (inl j) w rows_so n st pass =
    subst (λ (l : List Text). Went s w l (used a (t ∷ []) rows_so) (n + length l)) (sym j.1) (joined_goes s a t j.0 j.2 w rows_so n st pass)
spelled_goes s a t words (inr j) w rows_so n st pass =
    subst (λ (l : List Text). Went s w l (used a (t ∷ []) rows_so) (n + length l)) (sym j.1) (announced_goes s a t j.0 j.2 w rows_so n st pass)

-- an option by its name in its two forms
pub says_option : (s : Shape) (a : Rule) (name t : Text) → Joins s a t (name ++ (61 ∷ t)) → (IsValue t → Announces s a t name) → (words : List Text) → SaysOption name t words → Spelled s a t words
says_option s a name t j k (word ∷ []) says = inl (name ++ (61 ∷ t), ap (λ (x : Text). x ∷ []) says, j)
says_option s a name t j k (word ∷ next ∷ []) says =
    inr (name, ap (λ (x : Text). x ∷ next ∷ []) says.0 ∙ ap (λ (x : Text). name ∷ x ∷ []) says.1, k says.2)
says_option _ _ _ _ _ _ _ says = absurd says

-- where the value of an option is waited for
abbrev pub waits_for : Text → List Row → Walk
waits_for id rows = state (option id) rows (Some (id, []))

-- a value there
abbrev pub Valued : Shape → Rule → Text → List Row → Type 0
Valued s a t rows = (walked s.rules [] (waits_for a.id rows) t ≡ between rows (Some (a.id, t ∷ []))) × (turn_passes s [] (waits_for a.id rows) t ≡ true)

-- the name of an option alone leads to where its value is waited for, and a value from there on
pub record Waits (s : Shape) (a : Rule) (word : Text) : Type 0 where
  pub named : (waiting : Waiting) (rows : List Row) (pending : Pending) → walked s.rules [] (state waiting rows pending) word ≡ waits_for a.id (settled_to s rows pending)
  pub passes : (waiting : Waiting) (rows : List Row) (pending : Pending) → settles s rows pending ≡ true → turn_passes s [] (state waiting rows pending) word ≡ true
  pub empty : (rows : List Row) → Valued s a [] rows
  pub plain : (c : ℕ) (cs : Text) → is_flag (c ∷ cs) ≡ false → (rows : List Row) → Valued s a (c ∷ cs) rows
  pub hyphen : (rows : List Row) → Valued s a (45 ∷ []) rows

valued : (s : Shape) (a : Rule) (word : Text) → Waits s a word → (t : Text) → IsValue t → (rows : List Row) → Valued s a t rows
valued s a word w [] (inl e) rows = w.empty rows
valued s a word w (c ∷ cs) (inl e) rows = w.plain c cs e rows
valued s a word w t (inr e) rows = subst (λ (x : Text). Valued s a x rows) (sym e) (w.hyphen rows)

pub announces : (s : Shape) (a : Rule) (word : Text) → Waits s a word → (t : Text) → ((rows : List Row) → settled_to s rows (Some (a.id, t ∷ [])) ≡ used a (t ∷ []) rows)
    → ((rows : List Row) → use_passes false a (t ∷ []) rows ≡ true → settles s rows (Some (a.id, t ∷ [])) ≡ true) → IsValue t → Announces s a t word
unfolding walk_passes
announces s a word w t settled settling v = record {
  walks = λ waiting rows pending. ap (λ (x : Walk). walked s.rules [] x t) (w.named waiting rows pending) ∙ (valued s a word w t v (settled_to s rows pending)).0;
  passes = λ waiting rows pending k. both_true _ _ (w.passes waiting rows pending k)
      (both_true _ _ (subst (λ (x : Walk). turn_passes s [] x t ≡ true) (sym (w.named waiting rows pending)) (valued s a word w t v (settled_to s rows pending)).1) refl);
  settled = settled;
  settling = settling;
}

-- ---- an option by its name

-- a command has an option with one value by this name
pub record IsNamed (s : Shape) (a : Rule) (name : Text) : Type 0 where
  pub again : s.args_override_self ≡ false
  pub by_long : arg_by_long s.rules name ≡ Some a
  pub by_id : arg_by_id s.rules a.id ≡ Some a
  pub takes : takes_values a ≡ true
  pub single : (t : Text) → nat_lt (pending_count a (Some (a.id, t ∷ []))) (most_values a) ≡ false
  pub alone : (bytes_eq (codes "--" ++ name) dashes ≡ false) × (long_of (codes "--" ++ name) ≡ Some (name, None))
  pub joined : (t : Text) → (bytes_eq (codes "--" ++ name ++ (61 ∷ t)) dashes ≡ false) × (long_of (codes "--" ++ name ++ (61 ∷ t)) ≡ Some (name, Some t))

module _ (s : Shape) (a : Rule) (name : Text) (n : IsNamed s a name) where
  named_joins : (t : Text) → Joins s a t (codes "--" ++ name ++ (61 ∷ t))
  unfolding walked
  named_joins t = record {
    walks = λ waiting rows pending. rw (meets_none waiting (codes "--" ++ name ++ (61 ∷ t)), (n.joined t).0, (n.joined t).1, n.by_long, n.takes) refl;
    passes = λ waiting rows pending k u. rw (meets_none waiting (codes "--" ++ name ++ (61 ∷ t)), (n.joined t).0, (n.joined t).1, n.by_long, n.takes, n.again, k, u) refl;
  }

  pub named_waits : Waits s a (codes "--" ++ name)
  unfolding walked
  named_waits = record {
    named = λ waiting rows pending. rw (meets_none waiting (codes "--" ++ name), n.alone.0, n.alone.1, n.by_long, n.takes) refl;
    passes = λ waiting rows pending k. rw (meets_none waiting (codes "--" ++ name), n.alone.0, n.alone.1, n.by_long, n.takes, n.again, k) refl;
    empty = λ rows. (rw (n.by_id, n.single []) refl, refl);
    plain = λ c cs e rows. (rw (e, e, n.by_id, n.single (c ∷ cs)) refl, rw (n.again, e, e) refl);
    hyphen = λ rows. (rw (n.by_id, n.single (45 ∷ [])) refl, refl);
  }

  pub waits_announce : (word : Text) → Waits s a word → (t : Text) → IsValue t → Announces s a t word
  waits_announce word w t = announces s a word w t (λ rows. rw n.by_id refl) (λ rows u. rw n.by_id u)

  -- each spelling by the name
  pub named_spelled : (t : Text) (words : List Text) → SaysOption (codes "--" ++ name) t words → Spelled s a t words
  named_spelled t = says_option s a (codes "--" ++ name) t (named_joins t) (waits_announce (codes "--" ++ name) named_waits t)

-- ---- the name of a file

-- the facts on a command by which it has the name of a file
pub record Reads (s : Shape) : Type 0 where
  pub by_long : arg_by_long s.rules (codes "read") ≡ Some read_flag
  pub by_short : arg_by_short s.rules 114 ≡ Some read_flag
  pub by_id : arg_by_id s.rules (codes "read") ≡ Some read_flag
  pub again : s.args_override_self ≡ false

module _ (s : Shape) (r : Reads s) where
  read_named : IsNamed s read_flag (codes "read")
  read_named = record { again = r.again; by_long = r.by_long; by_id = r.by_id; takes = refl; single = λ t. refl; alone = (refl, refl); joined = λ t. (refl, refl) }

  equals_joins : (t : Text) → Joins s read_flag t (codes "-r" ++ (61 ∷ t))
  unfolding walked bundle_met chars encode_utf8 flags_pass
  equals_joins t = record {
    walks = λ waiting rows pending. rw (meets_none waiting (codes "-r" ++ (61 ∷ t)), r.by_short) refl;
    passes = λ waiting rows pending k u. rw (meets_none waiting (codes "-r" ++ (61 ∷ t)), r.by_short, r.again, k, u) refl;
  }

  behind_letter : (c : ℕ) (cs : Text) → (c == 61) ≡ false → Joins s read_flag (c ∷ cs) (codes "-r" ++ (c ∷ cs))
  unfolding walked bundle_met chars encode_utf8 flags_pass
  behind_letter c cs e = record {
    walks = λ waiting rows pending. rw (meets_none waiting (codes "-r" ++ (c ∷ cs)), r.by_short, e) refl;
    passes = λ waiting rows pending k u. rw (meets_none waiting (codes "-r" ++ (c ∷ cs)), r.by_short, e, r.again, k, u) refl;
  }

  letter_joins : (t : Text) → is_attached t ≡ true → Joins s read_flag t (codes "-r" ++ t)
  letter_joins [] e = absurd (true≢false (sym e))
  letter_joins (c ∷ cs) e = behind_letter c cs ((elim (c == 61) as (λ (b : Bool). not b ≡ true → b ≡ false) [ false ↦ λ f. refl | true ↦ λ f. absurd (true≢false (sym f)) ]) e)

  letter_waits : Waits s read_flag (codes "-r")
  unfolding walked bundle_met chars encode_utf8 flags_pass
  letter_waits = let long = named_waits s read_flag (codes "read") read_named in record {
    named = λ waiting rows pending. rw (meets_none waiting (codes "-r"), r.by_short) refl;
    passes = λ waiting rows pending k. rw (meets_none waiting (codes "-r"), r.by_short, r.again, k) refl;
    empty = long.empty;
    plain = long.plain;
    hyphen = long.hyphen;
  }

  by_letter : (t : Text) (words : List Text) → SaysByLetter t words → Spelled s read_flag t words
  by_letter t (word ∷ []) (inl e) = inl (codes "-r" ++ (61 ∷ t), ap (λ (x : Text). x ∷ []) e, equals_joins t)
  by_letter t (word ∷ []) (inr e) = inl (codes "-r" ++ t, ap (λ (x : Text). x ∷ []) e.0, letter_joins t e.1)
  by_letter t (word ∷ next ∷ []) says =
      inr (codes "-r", ap (λ (x : Text). x ∷ next ∷ []) says.0 ∙ ap (λ (x : Text). codes "-r" ∷ x ∷ []) says.1, waits_announce s read_flag (codes "read") read_named (codes "-r") letter_waits t says.2)
  by_letter _ _ says = absurd says

  -- each spelling of the name of a file
  pub file_spelled : (t : Text) (words : List Text) → Says (file t) words → Spelled s read_flag t words
  file_spelled t words (inl says) = named_spelled s read_flag (codes "read") read_named t words says
  file_spelled t words (inr says) = by_letter t words says

-- ---- arguments one behind the other

-- an argument of a command: its texts go behind those of its name, or there is one at most of all; its words lead from rows to rows with its
-- text; and where it has the name of an option, it gives that
pub record Handled (s : Shape) (all : List Argument) (a : Argument) : Type 0 where
  pub appends : Bool
  pub once : (appends ≡ true) ⊎ (length (given_as (argument_name a) all) ≤ 1)
  pub goes : (words : List Text) → Says a words → (w : Walk) (rows_so : List Row) (n : ℕ) → Stands s w rows_so n → n + length words ≤ usize_max
      → (appends ≡ true) ⊎ (has_row (argument_name a) rows_so ≡ false)
      → Went s w words (puts appends (argument_name a) (how_read s (argument_name a)) (argument_text a) rows_so) (n + length words)
  pub gives : (o : Switch) → bytes_eq (argument_name a) (switch_name o) ≡ true → (argument_text a ≡ codes "true") × (how_read s (switch_name o) ≡ reading_by (switch_flag o))

abbrev pub Each : Shape → List Argument → List Argument → Type 0
Each s all [] = Unit {0}
Each s all (a ∷ rest) = Handled s all a × Each s all rest

pub record Gone (s : Shape) (all : List Argument) (w : Walk) (line : List Text) : Type 0 where
  pub rows_so : List Row
  pub n : ℕ
  pub stands : Stands s (fold (walked s.rules []) w line) rows_so n
  pub passes : walk_passes s [] w line ≡ true
  pub hold : Hold s rows_so all

pub arguments_go : (s : Shape) (all done rest : List Argument) → all ≡ done ++ rest → Each s all rest → (line : List Text) → SayAll rest line → (w : Walk) (rows_so : List Row) (n : ℕ) → Stands s w rows_so n → Hold s rows_so done
    → n + length line ≤ usize_max → Gone s all w line
unfolding walk_passes
arguments_go s all done [] e each line say w rows_so n st hold fits =
    subst (λ (l : List Text). Gone s all w l) (sym say) (record { rows_so = rows_so; n = n; stands = st; passes = refl; hold = subst (Hold s rows_so) (sym (e ∙ append-nil done)) hold })
arguments_go s all done (a ∷ rest) e each line (first, more, is, says, later) w rows_so n st hold fits =
    let size = ap length is ∙ length-append first more in
    let fresh : (each.0.appends ≡ true) ⊎ (given_as (argument_name a) done ≡ []) = elim each.0.once [
      | inl t ↦ inl t
      | inr once ↦ inr (none_before done rest a (subst (λ (l : List Argument). length (given_as (argument_name a) l) ≤ 1) e once))
    ] in
    let unused : (each.0.appends ≡ true) ⊎ (has_row (argument_name a) rows_so ≡ false) = elim fresh [
      | inl t ↦ inl t
      | inr none ↦ inr (no_row s rows_so done (argument_name a) hold none)
    ] in
    let went = each.0.goes first says w rows_so n st (omega (arith, fits, size)) unused in
    let behind = arguments_go s all (done ++ a ∷ []) rest (e ∙ sym (append_assoc done (a ∷ []) rest)) each.1 more later (fold (walked s.rules []) w first)
    (puts each.0.appends (argument_name a) (how_read s (argument_name a)) (argument_text a) rows_so) (n + length first) went.stands
    (hold_more s rows_so done a each.0.appends fresh hold) (omega (arith, fits, size)) in
    subst (λ (l : List Text). Gone s all w l) (sym is) (record {
      rows_so = behind.rows_so;
      n = behind.n;
      stands = subst (λ (x : Walk). Stands s x behind.rows_so behind.n) (sym (fold-append (walked s.rules []) w first more)) behind.stands;
      passes = passes_behind s w first more went.passes behind.passes;
      hold = behind.hold;
    })

-- ---- the end of the words

-- words of these arguments pass, and lead to rows that hold them, and defaults
pub record Ended (s : Shape) (all : List Argument) (words : List Text) : Type 0 where
  pub rows_so : List Row
  pub hold : Hold s rows_so all
  pub rows_are : rows_after s.rules [] words ≡ fold with_default rows_so s.rules
  pub passes : walk_passes s [] (walk_from nothing_held) words ≡ true
  pub settling : settle_passes s.rules false (walk s.rules [] nothing_held words).held ≡ true

marked_held : (s : Shape) (waiting : Waiting) (rows : List Row) (pending : Pending) → (walked s.rules [] (state waiting rows pending) dashes).held ≡ held rows pending
unfolding walked
marked_held s waiting rows pending = rw (meets_none waiting dashes) refl

marked_passes : (s : Shape) (waiting : Waiting) (rows : List Row) (pending : Pending) → turn_passes s [] (state waiting rows pending) dashes ≡ true
marked_passes s waiting rows pending = rw (meets_none waiting dashes) refl

pub arguments_end : (s : Shape) (all : List Argument) → Each s all all → (line mark : List Text) → SayAll all line → IsEnd mark → length line ≤ usize_max → Ended s all (line ++ mark)
unfolding walk_passes
arguments_end s all each line mark say end fits = elim end [
  | inl e ↦ subst (λ (m : List Text). Ended s all (line ++ m)) (sym e) (subst (λ (l : List Text). Ended s all l) (sym (append-nil line)) plainly)
  | inr e ↦ subst (λ (m : List Text). Ended s all (line ++ m)) (sym e) by_mark
]
  where
    gone : Gone s all (walk_from nothing_held) line
    gone = arguments_go s all [] all refl each line say (walk_from nothing_held) [] 0
        (record { waiting = idle; rows = []; pending = None; is = refl; free = refl; settled = refl; settling = refl; few = omega arith }) (λ id. refl) (omega (arith, fits))

    rows_so : List Row
    rows_so = gone.rows_so

    at_end : (h : Held) → h ≡ held gone.stands.rows gone.stands.pending → (finished s.rules h ≡ fold with_default gone.rows_so s.rules) × (settle_passes s.rules false h ≡ true)
    at_end h e = (ap (λ (x : Held). finished s.rules x) e ∙ ap (λ (r : List Row). fold with_default r s.rules) gone.stands.settled, subst (λ (x : Held). settle_passes s.rules false x ≡ true) (sym e) gone.stands.settling)

    plainly : Ended s all line
    plainly =
        let last = at_end (walk s.rules [] nothing_held line).held (ap (λ (x : Walk). x.held) gone.stands.is) in
        record { rows_so = gone.rows_so; hold = gone.hold; rows_are = last.0; passes = gone.passes; settling = last.1 }

    by_mark : Ended s all (line ++ dashes ∷ [])
    by_mark =
        let there : fold (walked s.rules []) (walk_from nothing_held) (line ++ dashes ∷ []) ≡ walked s.rules [] (state gone.stands.waiting gone.stands.rows gone.stands.pending) dashes =
        fold-append (walked s.rules []) (walk_from nothing_held) line (dashes ∷ []) ∙ ap (λ (x : Walk). walked s.rules [] x dashes) gone.stands.is in
        let last = at_end (walk s.rules [] nothing_held (line ++ dashes ∷ [])).held (ap (λ (x : Walk). x.held) there ∙ marked_held s gone.stands.waiting gone.stands.rows gone.stands.pending) in
        record {
          rows_so = gone.rows_so;
          hold = gone.hold;
          rows_are = last.0;
          passes = passes_behind s (walk_from nothing_held) line (dashes ∷ []) gone.passes
              (both_true _ _ (subst (λ (x : Walk). turn_passes s [] x dashes ≡ true) (sym gone.stands.is) (marked_passes s gone.stands.waiting gone.stands.rows gone.stands.pending)) refl);
          settling = last.1;
        }

pub level_ended : (s : Shape) (all : List Argument) (words : List Text) → Ended s all words → s.args_override_self ≡ false → list_all default_passes s.rules ≡ true
    → is_valid s (rows_after s.rules [] words) false ≡ true → level_passes s [] nothing_held words false ≡ true
level_ended s all words e again defaults valid =
    both_true _ _ e.passes (both_true _ _ (rw again e.settling) (both_true _ _ defaults valid))

-- options under their names give that they are on
pub given_true : (s : Shape) (all args : List Argument) (o : Switch) → Each s all args
    → (are_true (given_as (switch_name o) args) ≡ true) × ((given_as (switch_name o) args ≡ []) ⊎ (how_read s (switch_name o) ≡ reading_by (switch_flag o)))
given_true s all [] o each = (refl, inl refl)
given_true s all (a ∷ args) o each = go (bytes_eq (argument_name a) (switch_name o)) refl (given_true s all args o each.1)
  where
    go : (b : Bool) → bytes_eq (argument_name a) (switch_name o) ≡ b
        → (are_true (given_as (switch_name o) args) ≡ true) × ((given_as (switch_name o) args ≡ []) ⊎ (how_read s (switch_name o) ≡ reading_by (switch_flag o)))
        → (are_true (given_as (switch_name o) (a ∷ args)) ≡ true) × ((given_as (switch_name o) (a ∷ args) ≡ []) ⊎ (how_read s (switch_name o) ≡ reading_by (switch_flag o)))
    go true t rest = let own = each.0.gives o t in rw t (rw own.0 rest.0, inr own.1)
    go false t rest = rw t rest

-- ---- rows that hold arguments of a command

-- an option is set where it is given
module _ (o : Switch) (how : Reading) where
  set_true : (t : Text) → how ≡ reading_by (switch_flag o) → t ≡ codes "true" → set_by (row_for (switch_name o) how (t ∷ [])) ≡ true
  set_true t e f = rw (e, f) refl

  set_for : (b : Bool) (ts : List Text) → are_true ts ≡ true → (ts ≡ []) ⊎ (how ≡ reading_by (switch_flag o)) → length ts ≡ (if b then 1 else 0) → set_by (row_for (switch_name o) how ts) ≡ b
  set_for false [] all read count = refl
  set_for true (t ∷ []) all (inl e) count = let size = ap length e in absurd (omega (arith, size))
  set_for true (t ∷ []) all (inr e) count = set_true t e (sym ((bytes_eq-Decides (codes "true") t).0 (both (bytes_eq (codes "true") t) true all).0))
  set_for _ _ all read count = absurd (omega (arith, count))

pub set_held : (s : Shape) (rows : List Row) (all : List Argument) (o : Switch) (b : Bool) → Hold s rows all → Each s all all → length (given_as (switch_name o) all) ≡ (if b then 1 else 0) → is_set (switch_name o) rows ≡ b
set_held s rows all o b hold each count =
    let told = given_true s all all o each in
    ap set_by (hold (switch_name o)) ∙ set_for o (how_read s (switch_name o)) b (given_as (switch_name o) all) told.0 told.1 count

-- and so it is counted
pub count_set : (s : Shape) (rows : List Row) (all : List Argument) (o : Switch) → Hold s rows all → Each s all all → length (given_as (switch_name o) all) ≤ 1
    → length (given_as (switch_name o) all) ≡ (if is_set (switch_name o) rows then 1 else 0)
count_set s rows all o hold each few = go (length (given_as (switch_name o) all)) refl few
  where
    go : (k : ℕ) → length (given_as (switch_name o) all) ≡ k → k ≤ 1 → k ≡ (if is_set (switch_name o) rows then 1 else 0)
    go zero e m = sym (ap (λ (b : Bool). if b then 1 else 0) (set_held s rows all o false hold each e))
    go (suc zero) e m = sym (ap (λ (b : Bool). if b then 1 else 0) (set_held s rows all o true hold each e))
    go (suc (suc k)) e m = absurd (omega (arith, m))

-- each of arguments of which a test holds
pub each_of : (s : Shape) (all : List Argument) (has : Argument → Bool) → ((a : Argument) → has a ≡ true → Handled s all a) → (args : List Argument) → list_all has args ≡ true → Each s all args
each_of s all has handled [] e = tt
each_of s all has handled (a ∷ args) e = let parts = both (has a) (list_all has args) e in (handled a parts.0, each_of s all has handled args parts.1)
