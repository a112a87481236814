-- What each command takes leads its walk on: options without a value, the name of a file, options with a value, and texts of blocks.
use Rattle.std.proofs.Common.{◌≡◌, ◌∙◌, ◌&&◌, ◌||◌, ◌+◌, ◌≤◌, ℕ, Bool, true, false, true≢false, List, [], ◌∷◌, ◌++◌, length, Option, Some, None, unwrap_or, inl, inr, refl, sym, ap, ap₂, subst, arith, le-leb, length-append, append_assoc}
use Rattle.std.specs.Prelude.{codes}
use Rattle.std.specs.List.{list_all}
use Rattle.std.specs.Str.{bytes_eq}
use Rattle.std.proofs.lemmas.Slice.Eq.{bytes_eq-Decides}
use Rattle.std.proofs.lemmas.Bool.{cases_Bool}
use Rattle.clap.specs.Lexer.{long_of, usize_max}
use Rattle.clap.specs.Words.{Row, Rule, Shape, Text}
use Rattle.clap.specs.Simple.{filled, with_index}
use Rattle.clap.specs.Takes.{turn_passes, use_passes, value_passes, walk_passes}
use Rattle.clap.specs.Walk.{Waiting, Walk, arg_by_id, arg_by_long, has_row, idle, option, positional, reading_by, stronger, used, walked, with_values}
use Rattle.clap.specs.declared.builder.value_parser.Reading.{Reading}
use Rattle.clap.specs.declared.parser.matches.ValueSource.{ValueSource}
use Rattle.clap.specs.declared.parser.matches.ValueSource.TheVariants.{CommandLine}
use Rattle.words_core.specs.CommandLine.{Asked, block_rule, is_flag, is_plain, losses, losses_shape, replay, replay_shape, stream_period_rule, takes_options, watch}
use Rattle.words_core.specs.RequestLine.{Argument, Says, Switch, argument_name, argument_text, capture, changes, file, given_as, offered, read_rule, simulation, switch, switch_name, switch_word, takes_argument, text, valued}
use Rattle.words_core.proofs.ArgumentRows.{how_read, puts, Handled, IsNamed, Reads, Spelled, Stands, Went, file_spelled, is_free, named_spelled, size_of, spelled_goes, went_to}
use Rattle.words_core.proofs.KeptRows.{leaf, id_option, period_option, watches}
use Rattle.words_core.proofs.Switches.{read_flag, self_eq, strongest, switch_flag, use_switch, apart_from, is_common, one_name, Pending, between, both_true, dashes, meets_none, settled_to, settles, state}
use Rattle.words_core.proofs.LoneFlags.{plain_leaf}

-- the subcommand `replay` as it is built
abbrev pub replays : Shape
replays = leaf (offered true replay_shape)

abbrev pub block_argument : Rule
block_argument = with_index 1 (filled block_rule)

-- and `losses`
abbrev pub losing : Shape
losing = leaf (offered true losses_shape)

abbrev pub stream_period : Rule
stream_period = with_index 1 (filled stream_period_rule)

-- ---- options without a value

-- a command has an option, by its name and as an argument
abbrev pub Offers : Shape → Switch → Type 0
Offers s o = (arg_by_long s.rules (switch_name o) ≡ Some (switch_flag o)) × (arg_by_id s.rules (switch_name o) ≡ Some (switch_flag o))

-- the word of an option is its long name alone
switch_alone : (o : Switch) → (bytes_eq (switch_word o) dashes ≡ false) × (long_of (switch_word o) ≡ Some (switch_name o, None))
switch_alone capture = (refl, refl)
switch_alone _ = (refl, refl)

module _ (s : Shape) (again : s.args_override_self ≡ false) where
  switch_walks : (o : Switch) → Offers s o → (waiting : Waiting) (rows : List Row) (pending : Pending)
      → walked s.rules [] (state waiting rows pending) (switch_word o) ≡ between (use_switch o (settled_to s rows pending)) None
  unfolding walked
  switch_walks o g waiting rows pending = rw (meets_none waiting (switch_word o), (switch_alone o).0, (switch_alone o).1, g.0) refl

  switch_passes : (o : Switch) → Offers s o → (waiting : Waiting) (rows : List Row) (pending : Pending) → settles s rows pending ≡ true → has_row (switch_name o) (settled_to s rows pending) ≡ false
      → turn_passes s [] (state waiting rows pending) (switch_word o) ≡ true
  switch_passes o g waiting rows pending k u = rw (meets_none waiting (switch_word o), (switch_alone o).0, (switch_alone o).1, g.0, again, k, u) refl

  switch_goes : (o : Switch) → Offers s o → (w : Walk) (rows_so : List Row) (n : ℕ) → Stands s w rows_so n → has_row (switch_name o) rows_so ≡ false
      → Went s w (switch_word o ∷ []) (use_switch o rows_so) (n + 1)
  unfolding walk_passes
  switch_goes o g w rows_so n st unused =
      went_to s w (switch_word o ∷ []) idle (use_switch o (settled_to s st.rows st.pending)) None (use_switch o rows_so) (n + 1) refl
      (ap (λ (x : Walk). walked s.rules [] x (switch_word o)) st.is ∙ switch_walks o g st.waiting st.rows st.pending) (ap (use_switch o) st.settled) refl (omega arith)
      (both_true _ _ (subst (λ (x : Walk). turn_passes s [] x (switch_word o) ≡ true) (sym st.is)
      (switch_passes o g st.waiting st.rows st.pending st.settling (subst (λ (r : List Row). has_row (switch_name o) r ≡ false) (sym st.settled) unused))) refl)

  reads : (o : Switch) → Offers s o → how_read s (switch_name o) ≡ reading_by (switch_flag o)
  reads o g = ap (λ (r : Option Rule). reading_by (unwrap_or r read_rule)) g.1

  pub switch_led : (o : Switch) → Offers s o → (w : Walk) (rows_so : List Row) (n : ℕ) → Stands s w rows_so n → has_row (switch_name o) rows_so ≡ false
      → Went s w (switch_word o ∷ []) (puts false (switch_name o) (how_read s (switch_name o)) (codes "true") rows_so) (n + 1)
  switch_led o g w rows_so n st unused =
      subst (λ (h : Reading). Went s w (switch_word o ∷ []) (puts false (switch_name o) h (codes "true") rows_so) (n + 1)) (sym (reads o g)) (switch_goes o g w rows_so n st unused)

  pub switch_handled : (o : Switch) → Offers s o → (all : List Argument) → length (given_as (switch_name o) all) ≤ 1 → Handled s all (switch o)
  switch_handled o g all most = record {
    appends = false;
    once = inr most;
    goes = λ words says w rows_so n st fits may. subst (λ (l : List Text). Went s w l (puts false (switch_name o) (how_read s (switch_name o)) (codes "true") rows_so) (n + length l)) (sym says)
        (switch_led o g w rows_so n st (elim may [ inl bad ↦ absurd (true≢false (sym bad)) | inr unused ↦ unused ]));
    gives = λ p t. (refl, subst (λ (x : Switch). how_read s (switch_name x) ≡ reading_by (switch_flag x)) (one_name o p t) (reads o g));
  }

-- ---- an argument with a text

-- an option with a value that is not given yet
set_goes : (s : Shape) (a : Argument) (r : Rule) → ((words : List Text) → Says a words → Spelled s r (argument_text a) words)
    → ((rows : List Row) → used r (argument_text a ∷ []) rows ≡ puts false (argument_name a) (how_read s (argument_name a)) (argument_text a) rows)
    → ((rows : List Row) → has_row (argument_name a) rows ≡ false → use_passes false r (argument_text a ∷ []) rows ≡ true)
    → (words : List Text) → Says a words → (w : Walk) (rows_so : List Row) (n : ℕ) → Stands s w rows_so n → has_row (argument_name a) rows_so ≡ false
    → Went s w words (puts false (argument_name a) (how_read s (argument_name a)) (argument_text a) rows_so) (n + length words)
set_goes s a r spelled uses passes words says w rows_so n st unused =
    subst (λ (l : List Row). Went s w words l (n + length words)) (uses rows_so) (spelled_goes s r (argument_text a) words (spelled words says) w rows_so n st (passes rows_so unused))

-- and one that is given at most once
set_handled : (s : Shape) (all : List Argument) (a : Argument)
    → ((words : List Text) → Says a words → (w : Walk) (rows_so : List Row) (n : ℕ) → Stands s w rows_so n → has_row (argument_name a) rows_so ≡ false
    → Went s w words (puts false (argument_name a) (how_read s (argument_name a)) (argument_text a) rows_so) (n + length words))
    → ((o : Switch) → bytes_eq (argument_name a) (switch_name o) ≡ false) → length (given_as (argument_name a) all) ≤ 1 → Handled s all a
set_handled s all a goes apart most = record {
  appends = false;
  once = inr most;
  goes = λ words says w rows_so n st fits may. goes words says w rows_so n st (elim may [ inl bad ↦ absurd (true≢false (sym bad)) | inr unused ↦ unused ]);
  gives = λ o t. absurd (true≢false (sym t ∙ apart o));
}

pub file_goes : (s : Shape) → Reads s → (name : Text) (words : List Text) → Says (file name) words → (w : Walk) (rows_so : List Row) (n : ℕ) → Stands s w rows_so n → has_row (codes "read") rows_so ≡ false
    → Went s w words (puts false (codes "read") (how_read s (codes "read")) name rows_so) (n + length words)
file_goes s r name =
    set_goes s (file name) read_flag (file_spelled s r name)
    (λ rows. ap (λ (h : Reading). puts false (codes "read") h name rows) (sym (ap (λ (o : Option Rule). reading_by (unwrap_or o read_rule)) r.by_id)))
    (λ rows unused. rw unused refl)

pub file_handled : (s : Shape) → Reads s → (all : List Argument) (name : Text) → length (given_as (codes "read") all) ≤ 1 → Handled s all (file name)
file_handled s r all name most = set_handled s all (file name) (file_goes s r name) (apart_from (codes "read") refl) most

period_named : IsNamed watches period_option (codes "period")
period_named = record { again = refl; by_long = refl; by_id = refl; takes = refl; single = λ t. refl; alone = (refl, refl); joined = λ t. (refl, refl) }

id_named : IsNamed watches id_option (codes "id")
id_named = record { again = refl; by_long = refl; by_id = refl; takes = refl; single = λ t. refl; alone = (refl, refl); joined = λ t. (refl, refl) }

stream_named : IsNamed losing stream_period (codes "period")
stream_named = record { again = refl; by_long = refl; by_id = refl; takes = refl; single = λ t. refl; alone = (refl, refl); joined = λ t. (refl, refl) }

pub period_handled : (all : List Argument) (t : Text) → value_passes period_option t ≡ true → length (given_as (codes "period") all) ≤ 1 → Handled watches all (valued (codes "period") t)
period_handled all t pass most =
    set_handled watches all (valued (codes "period") t)
    (set_goes watches (valued (codes "period") t) period_option (named_spelled watches period_option (codes "period") period_named t) (λ rows. refl) (λ rows unused. rw (unused, pass) refl)) (apart_from (codes "period") refl) most

pub id_handled : (all : List Argument) (t : Text) → length (given_as (codes "id") all) ≤ 1 → Handled watches all (valued (codes "id") t)
id_handled all t most =
    set_handled watches all (valued (codes "id") t)
    (set_goes watches (valued (codes "id") t) id_option (named_spelled watches id_option (codes "id") id_named t) (λ rows. refl) (λ rows unused. rw unused refl)) (apart_from (codes "id") refl) most

pub stream_handled : (all : List Argument) (t : Text) → Handled losing all (valued (codes "period") t)
stream_handled all t = record {
  appends = true;
  once = inl refl;
  goes = λ words says w rows_so n st fits may. spelled_goes losing stream_period t words (named_spelled losing stream_period (codes "period") stream_named t words says) w rows_so n st refl;
  gives = λ o e. absurd (true≢false (sym e ∙ apart_from (codes "period") refl o));
}

-- ---- the texts of blocks

-- what is pending are texts of blocks
abbrev is_of_blocks : Pending → Bool
is_of_blocks None = false
is_of_blocks (Some p) = bytes_eq p.0 (codes "BLOCK")

-- values that are put one behind the other are put at once
put_values : (id : Text) (how : Reading) (ts : List Text) (t : Text) (rows : List Row)
    → with_values id how CommandLine (ts ++ t ∷ []) rows ≡ with_values id how CommandLine (t ∷ []) (with_values id how CommandLine ts rows)
put_values id how ts t [] = let same = self_eq id in rw same refl
put_values id how ts t (r ∷ rows) = elim (cases_Bool (bytes_eq r.id id)) [
  | inl u ↦ rw u (rw u (ap₂ (λ (v : List Text) (x : ValueSource). (record r { values = v; source = Some x }) ∷ rows) (sym (append_assoc r.values ts (t ∷ []))) (strongest r.source ∙ sym (strongest (Some (stronger r.source CommandLine))))))
  | inr u ↦ rw u (rw u (ap (λ (l : List Row). r ∷ l) (put_values id how ts t rows)))
]

-- a text behind what is no text of a block
next_alone : (waiting : Waiting) → is_free waiting ≡ true → (rows : List Row) (pending : Pending) → is_of_blocks pending ≡ false → (t : Text) → is_flag t ≡ false
    → walked replays.rules [] (state waiting rows pending) t ≡ state positional (settled_to replays rows pending) (Some (codes "BLOCK", t ∷ []))
unfolding walked
next_alone (option id) g rows pending e t f = absurd (true≢false (sym g))
next_alone _ g rows None e [] f = refl
next_alone _ g rows None e (c ∷ cs) f = rw f (rw f refl)
next_alone _ g rows (Some p) e [] f = rw e refl
next_alone _ g rows (Some p) e (c ∷ cs) f = rw f (rw f (rw e refl))

-- and behind texts of blocks
next_more : (waiting : Waiting) → is_free waiting ≡ true → (rows : List Row) (ts : List Text) (t : Text) → is_flag t ≡ false
    → walked replays.rules [] (state waiting rows (Some (codes "BLOCK", ts))) t ≡ state positional rows (Some (codes "BLOCK", ts ++ t ∷ []))
unfolding walked
next_more (option id) g rows ts t f = absurd (true≢false (sym g))
next_more _ g rows ts [] f = refl
next_more _ g rows ts (c ∷ cs) f = rw f (rw f refl)

either : (b : Bool) → ((b && true) || true) ≡ true
either true = refl
either false = refl

text_passes : (waiting : Waiting) → is_free waiting ≡ true → (rows : List Row) (pending : Pending) → settles replays rows pending ≡ true → (t : Text) → is_flag t ≡ false
    → turn_passes replays [] (state waiting rows pending) t ≡ true
text_passes (option id) g rows pending k t f = absurd (true≢false (sym g))
text_passes _ g rows None k [] f = refl
text_passes _ g rows None k (c ∷ cs) f = rw f (rw f refl)
text_passes _ g rows (Some p) k [] f = rw k (either (bytes_eq p.0 (codes "BLOCK")))
text_passes _ g rows (Some p) k (c ∷ cs) f = rw f (rw f (rw k (either (bytes_eq p.0 (codes "BLOCK")))))

each_passes : (ts : List Text) → list_all (λ (t : Text). true) ts ≡ true
each_passes [] = refl
each_passes (t ∷ ts) = each_passes ts

-- no more texts wait than fit
more_settle : (rows : List Row) (ts : List Text) (t : Text) → length ts + 1 ≤ usize_max → settles replays rows (Some (codes "BLOCK", ts ++ t ∷ [])) ≡ true
more_settle rows [] t fits = refl
more_settle rows (x ∷ xs) t fits =
    let one : 1 ≤ length (x ∷ (xs ++ t ∷ [])) = omega arith in
    let most : length (x ∷ (xs ++ t ∷ [])) ≤ usize_max = omega (arith, fits, length-append xs (t ∷ [])) in
    rw (le-leb 1 (length (x ∷ (xs ++ t ∷ []))) one, le-leb (length (x ∷ (xs ++ t ∷ []))) usize_max most) (each_passes (xs ++ t ∷ []))

more_settled : (rows : List Row) (ts : List Text) (t : Text)
    → settled_to replays rows (Some (codes "BLOCK", ts ++ t ∷ [])) ≡ puts true (codes "BLOCK") (how_read replays (codes "BLOCK")) t (settled_to replays rows (Some (codes "BLOCK", ts)))
more_settled rows [] t = put_values (codes "BLOCK") (how_read replays (codes "BLOCK")) [] t rows
more_settled rows (x ∷ xs) t = put_values (codes "BLOCK") (how_read replays (codes "BLOCK")) (x ∷ xs) t rows

text_goes : (t : Text) → is_flag t ≡ false → (w : Walk) (rows_so : List Row) (n : ℕ) → Stands replays w rows_so n → n + 1 ≤ usize_max
    → Went replays w (t ∷ []) (puts true (codes "BLOCK") (how_read replays (codes "BLOCK")) t rows_so) (n + 1)
unfolding walk_passes
text_goes t f w rows_so n st fits = go st.pending st.is st.settled st.settling st.few
  where
    passes : turn_passes replays [] w t ≡ true
    passes = subst (λ (x : Walk). turn_passes replays [] x t ≡ true) (sym st.is) (text_passes st.waiting st.free st.rows st.pending st.settling t f)

    alone : (p : Pending) → w ≡ state st.waiting st.rows p → settled_to replays st.rows p ≡ rows_so → is_of_blocks p ≡ false
        → Went replays w (t ∷ []) (puts true (codes "BLOCK") (how_read replays (codes "BLOCK")) t rows_so) (n + 1)
    alone p is settled other =
        went_to replays w (t ∷ []) positional (settled_to replays st.rows p) (Some (codes "BLOCK", t ∷ [])) (puts true (codes "BLOCK") (how_read replays (codes "BLOCK")) t rows_so) (n + 1) refl
        (ap (λ (x : Walk). walked replays.rules [] x t) is ∙ next_alone st.waiting st.free st.rows p other t f) (ap (puts true (codes "BLOCK") (how_read replays (codes "BLOCK")) t) settled) refl (omega arith) (both_true _ _ passes refl)

    more : (ts : List Text) → w ≡ state st.waiting st.rows (Some (codes "BLOCK", ts)) → settled_to replays st.rows (Some (codes "BLOCK", ts)) ≡ rows_so → length ts ≤ n
        → Went replays w (t ∷ []) (puts true (codes "BLOCK") (how_read replays (codes "BLOCK")) t rows_so) (n + 1)
    more ts is settled few =
        went_to replays w (t ∷ []) positional st.rows (Some (codes "BLOCK", ts ++ t ∷ [])) (puts true (codes "BLOCK") (how_read replays (codes "BLOCK")) t rows_so) (n + 1) refl
        (ap (λ (x : Walk). walked replays.rules [] x t) is ∙ next_more st.waiting st.free st.rows ts t f) (more_settled st.rows ts t ∙ ap (puts true (codes "BLOCK") (how_read replays (codes "BLOCK")) t) settled)
        (more_settle st.rows ts t (omega (arith, few, fits))) (omega (arith, few, length-append ts (t ∷ []))) (both_true _ _ passes refl)

    go : (p : Pending) → w ≡ state st.waiting st.rows p → settled_to replays st.rows p ≡ rows_so → settles replays st.rows p ≡ true → size_of p ≤ n
        → Went replays w (t ∷ []) (puts true (codes "BLOCK") (how_read replays (codes "BLOCK")) t rows_so) (n + 1)
    go None is settled k few = alone None is settled refl
    go (Some p) is settled k few = at (bytes_eq p.0 (codes "BLOCK")) refl
      where
        at : (b : Bool) → bytes_eq p.0 (codes "BLOCK") ≡ b → Went replays w (t ∷ []) (puts true (codes "BLOCK") (how_read replays (codes "BLOCK")) t rows_so) (n + 1)
        at false e = alone (Some p) is settled e
        at true e =
            let same : p.0 ≡ codes "BLOCK" = (bytes_eq-Decides p.0 (codes "BLOCK")).0 e in
            more p.1 (is ∙ ap (λ (x : Text). state st.waiting st.rows (Some (x, p.1))) same)
            (subst (λ (x : Text). settled_to replays st.rows (Some (x, p.1)) ≡ rows_so) same settled) few

pub text_handled : (all : List Argument) (t : Text) → Handled replays all (text t)
text_handled all t = record {
  appends = true;
  once = inl refl;
  goes = λ words says w rows_so n st fits may. subst (λ (l : List Text). Went replays w l (puts true (codes "BLOCK") (how_read replays (codes "BLOCK")) t rows_so) (n + length l)) (sym says.0)
      (text_goes t says.1 w rows_so n st (let size = ap length says.0 in omega (arith, fits, size)));
  gives = λ o e. absurd (true≢false (sym e ∙ apart_from (codes "BLOCK") refl o));
}

-- ---- each command

pub plain_reads : (takes : Bool) (t : Asked) → Reads (plain_leaf takes t)
plain_reads true t = record { by_long = refl; by_short = refl; by_id = refl; again = refl }
plain_reads false t = record { by_long = refl; by_short = refl; by_id = refl; again = refl }

pub replay_reads : Reads replays
replay_reads = record { by_long = refl; by_short = refl; by_id = refl; again = refl }

pub watch_reads : Reads watches
watch_reads = record { by_long = refl; by_short = refl; by_id = refl; again = refl }

pub losses_read : Reads losing
losses_read = record { by_long = refl; by_short = refl; by_id = refl; again = refl }

-- an argument of a command without words of its own, with the options or without
abbrev pub is_of : Bool → Argument → Bool
is_of takes (switch o) = takes && is_common o
is_of takes (file name) = true
is_of _ _ = false

pub plain_takes : (t : Asked) → is_plain t ≡ true → (a : Argument) → is_of (takes_options t) a ≡ takes_argument t a
plain_takes (replay blocks) e a = absurd (true≢false (sym e))
plain_takes (watch period id) e a = absurd (true≢false (sym e))
plain_takes (losses periods) e a = absurd (true≢false (sym e))
plain_takes t e (switch o) = refl
plain_takes t e _ = refl

pub plain_offers : (takes : Bool) (t : Asked) (o : Switch) → is_of takes (switch o) ≡ true → Offers (plain_leaf takes t) o
plain_offers false t o g = absurd (true≢false (sym g))
plain_offers true t changes g = absurd (true≢false (sym g))
plain_offers true t simulation g = absurd (true≢false (sym g))
plain_offers true t _ g = (refl, refl)

pub watch_offers : (o : Switch) → is_common o ≡ true → Offers watches o
watch_offers changes g = absurd (true≢false (sym g))
watch_offers simulation g = absurd (true≢false (sym g))
watch_offers _ g = (refl, refl)

pub losses_offer : (o : Switch) → is_common o ≡ true → Offers losing o
losses_offer changes g = absurd (true≢false (sym g))
losses_offer simulation g = absurd (true≢false (sym g))
losses_offer _ g = (refl, refl)

pub replay_offers : (o : Switch) → Offers replays o
replay_offers capture = (refl, refl)
replay_offers _ = (refl, refl)

-- an argument of another name than the options
abbrev pub IsApart : Text → Type 0
IsApart id = (o : Switch) → bytes_eq (switch_name o) id ≡ false

pub plain_handled : (takes : Bool) (t : Asked) (all : List Argument) → ((o : Switch) → length (given_as (switch_name o) all) ≤ 1) → length (given_as (codes "read") all) ≤ 1
    → (x : Argument) → is_of takes x ≡ true → Handled (plain_leaf takes t) all x
plain_handled takes t all once once_read (switch o) e = switch_handled (plain_leaf takes t) (plain_reads takes t).again o (plain_offers takes t o e) all (once o)
plain_handled takes t all once once_read (file name) e = file_handled (plain_leaf takes t) (plain_reads takes t) all name once_read
plain_handled _ _ _ _ _ _ e = absurd (true≢false (sym e))
