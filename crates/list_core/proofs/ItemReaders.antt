-- The answers of a reader of items: one, and several.
use Rattle.std.proofs.Common.{Option, Some, None, Ok, Err, Result, ◌≡◌, ℕ, ◌+◌, ◌≤◌, List, [], ◌∷◌, ◌++◌, length, inl, ap, sym, ◌∙◌, refl, arith}
use Rattle.std.proofs.lemmas.List.{append_assoc, append-nil}
use Rattle.std.specs.Io.KnownBytes.{Consumes}
use Rattle.list_core.specs.declared.device.InputEnd.{InputEnd}
use Rattle.list_core.specs.declared.list_fault.ListFault.{ListFault}
use Rattle.list_core.specs.declared.line_rules.ItemFault.TheVariants as fault
use Rattle.list_core.specs.Device.{GivesOctets, OnlyOpen}
use Rattle.list_core.specs.Lines.{LineListing, reading, put_line, fault_at, finished, faulty, CanFollow, Stop, StartsLine}
use Rattle.list_core.specs.FirstLine.{TextReadsAs}
use Rattle.list_core.specs.Items.{Rules, Listing, put_item, put_items, stops, close, missing, put_said, items_said, items_in, listing}
use Rattle.list_core.specs.ItemReader.{ReaderState, Answer, Tells, CountsTo, GivesFor, lines_before, TakesOff, OnlyKept, AnswersItem}
use Rattle.list_core.specs.computed.PrivateCalls.{TakesItems, SkipsLines}
use Rattle.list_core.proofs.Devices.{Consumes-append, Gives-append, Consumes-none, Gives-from_Consumes}
use Rattle.list_core.specs.Reader.{OnlyWanting}
use Rattle.list_core.proofs.Readers.{asked_by, passed_none, passed_after, OnlyOpen-append, off_after, starts_after, OnlyOpen-none, CanFollow-given, CanFollow-none, regroup}

-- a fault as it was told
same_fault : (n : ℕ) (f : ListFault) → f.line ≡ n + 1 → fault_at n f.cause ≡ record { lines = []; stop = faulty f }
same_fault n f e = ap (λ (k : ℕ). record { lines = []; stop = faulty (record { line = k; cause = f.cause }) }) (sym e)

took_after : {X C : Type 0} (answer : Answer X C) (a b c : Option (List ℕ)) (xs ys : List ℕ) → Consumes a b xs → GivesFor answer b c ys → GivesFor answer a c (xs ++ ys)
took_after (Ok o) a b c xs ys p q = Consumes-append a b c xs ys p q
took_after (Err (Some f)) a b c xs ys p q = Gives-append a b c xs ys p q
took_after (Err None) a b c xs ys p q = Consumes-append a b c xs ys p q

Tells-from : {X C : Type 0} (answer : Answer X C) (w v l : Listing X C) → w ≡ v → Tells answer v l → Tells answer w l
Tells-from answer w v l e t = rw e t

counts_after : {X C : Type 0} (answer : Answer X C) (a b c : ℕ) → a ≤ b → CountsTo answer b c → CountsTo answer a c
counts_after (Ok (Some e)) a b c h n = (omega (arith, n.0), n.1, n.2)
counts_after (Ok None) a b c h n = omega arith
counts_after (Err (Some f)) a b c h n = (omega (arith, n.0), n.1)
counts_after (Err None) a b c h n = omega arith

pub gives_of : {X C : Type 0} (answer : Answer X C) (a b : Option (List ℕ)) (xs : List ℕ) → GivesFor answer a b xs → GivesOctets a b xs
gives_of (Ok o) a b xs p = Gives-from_Consumes a b xs p
gives_of (Err (Some f)) a b xs p = p
gives_of (Err None) a b xs p = Gives-from_Consumes a b xs p

put_items-put_item : {X C : Type 0} (es : List (ℕ × X)) (e : ℕ × X) (l : Listing X C) → put_items es (put_item e l) ≡ put_items (es ++ e ∷ []) l
put_items-put_item es e l = ap (λ k. record { items = k; stop = l.stop }) (sym (append_assoc es (e ∷ []) l.items))

pub items_in-end : {S X C : Type 0} (r : Rules S X C) (s : S) (n : ℕ) (stop : Stop ListFault) → items_in r s n (record { lines = []; stop = stop }) ≡ stops (close r s n stop)
unfolding items_said
items_in-end r s n stop = refl

pub items_in-line : {S X C : Type 0} (r : Rules S X C) (s : S) (n : ℕ) (line : List ℕ) (l : LineListing) → items_in r s n (put_line line l) ≡ put_said n (r.said s line) (λ t. items_in r t (n + 1) l)
unfolding items_said
items_in-line r s n line l = refl

module _ {S X C : Type 0} (r : Rules S X C) where
  -- what is held after a read stands for what was held before it, and what was given
  pub tells : (old mid new : ReaderState S) (answer : Answer X C) (given : List ℕ) → mid.held ≡ old.held ++ given → mid.taken ≡ old.taken → mid.settled ≡ old.settled →
      OnlyOpen old.ending given mid.ending → GivesFor answer old.left mid.left given → OnlyWanting old.left old.ending old.held given mid.left mid.ending →
      new.left ≡ mid.left → new.ending ≡ mid.ending → length mid.held ≤ 8192 → CountsTo answer mid.taken new.taken →
      lines_before answer new.taken ≡ mid.taken → TakesOff answer mid.ending mid.held new.held → OnlyKept r mid.settled mid.ending mid.taken mid.held answer →
      ((more : List ℕ) (z : InputEnd) → CanFollow mid.ending more z → Tells answer (listing r mid.settled z mid.taken (mid.held ++ more)) (listing r new.settled z new.taken (new.held ++ more))) →
      AnswersItem r old answer new
  tells old mid new answer given h t s o k a l e b n p x w f = record {
    given = given;
    skipped = [];
    rest = mid.held;
    source = record { took = rw l k; only_open = rw e o; asked = passed_none _ _ _ _ _ _ _ (asked_by _ _ _ _ _ _ _ _ l e a) };
    lines = record { off = sym h; starts = inl refl; bounded = b; takes_off = rw e x; counted = rw (← t) n };
    settled = old.settled;
    kept = rw (e, p, ← s) w;
    skips = λ more z _. ap (λ (k : ℕ). listing r old.settled z k (old.held ++ given ++ more)) (sym t ∙ sym p) ∙ ap (λ (l : List ℕ). listing r old.settled z (lines_before answer new.taken) (l ++ more)) (sym h);
    reads = λ more z c. rw (← h, ← t, ← s) (f more z (rw e at c));
  }

  pub skips : (old mid new : ReaderState S) (given : List ℕ) → mid.held ≡ old.held ++ given → mid.taken ≡ old.taken → mid.settled ≡ old.settled →
      OnlyOpen old.ending given mid.ending → Consumes old.left mid.left given → OnlyWanting old.left old.ending old.held given mid.left mid.ending → new.left ≡ mid.left → new.ending ≡ mid.ending →
      new.taken ≡ mid.taken + 1 → (line : List ℕ) → mid.held ≡ line ++ new.held → StartsLine mid.ending line new.held →
      ((more : List ℕ) (z : InputEnd) → CanFollow mid.ending more z → listing r mid.settled z mid.taken (mid.held ++ more) ≡ listing r new.settled z new.taken (new.held ++ more)) →
      SkipsLines r old new
  skips old mid new given h t s o k a l e n line x w f = record {
    given = given;
    took = rw l k;
    only_open = rw e o;
    counted = omega arith;
    skipped = line;
    off = sym h ∙ x;
    asked = passed_none _ _ _ _ _ _ _ (asked_by _ _ _ _ _ _ _ _ l e a);
    starts = rw e w;
    reads = λ more z c. rw (← h, ← t, ← s) (f more z (rw e at c));
  }

  -- the end of the input, with what it misses
  pub listing-end : (s : S) (ending : InputEnd) (n : ℕ) (held : List ℕ) (lacks : Option C) → r.lacks s ≡ lacks → TextReadsAs ending n held (λ _ _. record { lines = []; stop = finished }) →
      (more : List ℕ) (z : InputEnd) → CanFollow ending more z → listing r s z n (held ++ more) ≡ stops (missing n lacks)
  listing-end s ending n held lacks e f more z c = ap (items_in r s n) (f more z c) ∙ items_in-end r s n finished ∙ ap (λ o. stops (missing n o)) e

  pub listing-fault : (s : S) (ending : InputEnd) (n : ℕ) (held : List ℕ) (f : ListFault) → f.line ≡ n + 1 → TextReadsAs ending n held (λ _ _. fault_at n f.cause) →
      (more : List ℕ) (z : InputEnd) → CanFollow ending more z → listing r s z n (held ++ more) ≡ stops (faulty (fault.Lines f))
  listing-fault s ending n held f e g more z c = ap (items_in r s n) (g more z c ∙ same_fault n f e) ∙ items_in-end r s n (faulty f)

  -- a first line, of which it is known what it says
  pub listing-line : (s : S) (ending : InputEnd) (n : ℕ) (held line rest : List ℕ) (said : Result (Option X × S) C) → r.said s line ≡ said →
      TextReadsAs ending n held (λ z more. put_line line (reading z (n + 1) (rest ++ more))) →
      (more : List ℕ) (z : InputEnd) → CanFollow ending more z → listing r s z n (held ++ more) ≡ put_said n said (λ t. listing r t z (n + 1) (rest ++ more))
  listing-line s ending n held line rest said e f more z c =
      ap (items_in r s n) (f more z c) ∙ items_in-line r s n line (reading z (n + 1) (rest ++ more)) ∙ ap (λ x. put_said n x (λ t. listing r t z (n + 1) (rest ++ more))) e

  -- what is listed after lines without items
  before : (a b c : ReaderState S) (p : SkipsLines r a b) (g : List ℕ) → OnlyOpen b.ending g c.ending → (more : List ℕ) (z : InputEnd) → CanFollow c.ending more z →
      listing r a.settled z a.taken (a.held ++ (p.given ++ g) ++ more) ≡ listing r b.settled z b.taken (b.held ++ g ++ more)
  before a b c p g o more z f =
      ap (listing r a.settled z a.taken) (regroup a.held p.given g more) ∙ p.reads (g ++ more) z (CanFollow-given _ _ _ more z o f)
      ∙ ap (listing r b.settled z b.taken) (sym (append_assoc b.held g more))

  pub skips-then : (a b c : ReaderState S) (answer : Answer X C) → SkipsLines r a b → AnswersItem r b answer c → AnswersItem r a answer c
  skips-then a b c answer p q = record {
    given = p.given ++ q.given;
    skipped = p.skipped ++ q.skipped;
    rest = q.rest;
    source = record {
      took = took_after answer _ _ _ _ _ p.took q.source.took;
      only_open = OnlyOpen-append _ _ _ _ _ p.only_open q.source.only_open;
      asked = passed_after _ _ _ _ _ _ _ _ _ _ _ _ p.off p.only_open q.source.only_open p.asked q.source.asked;
    };
    lines = record {
      off = off_after a.held p.given p.skipped b.held q.given q.skipped q.rest p.off q.lines.off;
      starts = starts_after b.ending c.ending p.skipped b.held q.given q.skipped q.rest p.starts q.source.only_open q.lines.off q.lines.starts;
      bounded = q.lines.bounded;
      takes_off = q.lines.takes_off;
      counted = counts_after answer _ _ _ p.counted q.lines.counted;
    };
    settled = q.settled;
    kept = q.kept;
    skips = λ more z f. before a b c p q.given q.source.only_open more z f ∙ q.skips more z f;
    reads = λ more z f. Tells-from answer _ _ _ (before a b c p q.given q.source.only_open more z f) (q.reads more z f);
  }

  pub skips-skips : (a b c : ReaderState S) → SkipsLines r a b → SkipsLines r b c → SkipsLines r a c
  skips-skips a b c p q = record {
    given = p.given ++ q.given;
    took = Consumes-append _ _ _ _ _ p.took q.took;
    only_open = OnlyOpen-append _ _ _ _ _ p.only_open q.only_open;
    counted = omega (arith, p.counted, q.counted);
    skipped = p.skipped ++ q.skipped;
    off = off_after a.held p.given p.skipped b.held q.given q.skipped c.held p.off q.off;
    asked = passed_after _ _ _ _ _ _ _ _ _ _ _ _ p.off p.only_open q.only_open p.asked q.asked;
    starts = starts_after b.ending c.ending p.skipped b.held q.given q.skipped c.held p.starts q.only_open q.off q.starts;
    reads = λ more z f. before a b c p q.given q.only_open more z f ∙ q.reads more z f;
  }

  pub skips-none : (s : ReaderState S) → SkipsLines r s s
  skips-none s = record {
    given = [];
    took = Consumes-none s.left;
    only_open = OnlyOpen-none s.ending;
    counted = omega arith;
    skipped = [];
    off = append-nil s.held;
    asked = inl (refl, refl, refl);
    starts = inl refl;
    reads = λ more z _. ap (listing r s.settled z s.taken) (ap (λ l. l ++ more) (append-nil s.held));
  }

  -- no item yet
  pub TakesItems-none : (s : ReaderState S) → TakesItems r s [] s
  TakesItems-none s = record {
    given = [];
    took = Consumes-none s.left;
    only_open = OnlyOpen-none s.ending;
    counted = omega arith;
    lines = [];
    off = append-nil s.held;
    starts = inl refl;
    reads = λ more z _. ap (listing r s.settled z s.taken) (ap (λ l. l ++ more) (append-nil s.held));
  }

  -- what is listed after several items
  after_items : (a b c : ReaderState S) (es : List (ℕ × X)) (p : TakesItems r a es b) (g : List ℕ) → OnlyOpen b.ending g c.ending → (more : List ℕ) (z : InputEnd) → CanFollow c.ending more z →
      listing r a.settled z a.taken (a.held ++ (p.given ++ g) ++ more) ≡ put_items es (listing r b.settled z b.taken (b.held ++ g ++ more))
  after_items a b c es p g o more z f =
      ap (listing r a.settled z a.taken) (regroup a.held p.given g more) ∙ p.reads (g ++ more) z (CanFollow-given _ _ _ more z o f)
      ∙ ap (λ l. put_items es (listing r b.settled z b.taken l)) (sym (append_assoc b.held g more))

  -- the octets that an answer takes off with its item
  item_off : (b c : ReaderState S) (e : ℕ × X) (q : AnswersItem r b (Ok (Some e)) c) → b.held ++ q.given ≡ (q.skipped ++ q.lines.takes_off.0) ++ c.held
  item_off b c e q = q.lines.off ∙ ap (λ l. q.skipped ++ l) q.lines.takes_off.1 ∙ sym (append_assoc q.skipped q.lines.takes_off.0 c.held)

  item_starts : (b c : ReaderState S) (e : ℕ × X) (q : AnswersItem r b (Ok (Some e)) c) → StartsLine c.ending (q.skipped ++ q.lines.takes_off.0) c.held
  item_starts b c e q = starts_after c.ending c.ending q.skipped q.rest [] q.lines.takes_off.0 c.held q.lines.starts (OnlyOpen-none c.ending) (append-nil q.rest ∙ q.lines.takes_off.1) q.lines.takes_off.2

  -- an item more
  pub TakesItems-push : (a b c : ReaderState S) (es : List (ℕ × X)) (e : ℕ × X) → TakesItems r a es b → AnswersItem r b (Ok (Some e)) c → TakesItems r a (es ++ e ∷ []) c
  TakesItems-push a b c es e p q = record {
    given = p.given ++ q.given;
    took = Consumes-append _ _ _ _ _ p.took q.source.took;
    only_open = OnlyOpen-append _ _ _ _ _ p.only_open q.source.only_open;
    counted = omega (arith, p.counted, q.lines.counted.0);
    lines = p.lines ++ (q.skipped ++ q.lines.takes_off.0);
    off = off_after a.held p.given p.lines b.held q.given (q.skipped ++ q.lines.takes_off.0) c.held p.off (item_off b c e q);
    starts = starts_after b.ending c.ending p.lines b.held q.given (q.skipped ++ q.lines.takes_off.0) c.held p.starts q.source.only_open (item_off b c e q) (item_starts b c e q);
    reads = λ more z f. after_items a b c es p q.given q.source.only_open more z f ∙ ap (put_items es) (q.reads more z f)
        ∙ put_items-put_item es e (listing r c.settled z c.taken (c.held ++ more));
  }

  -- what the octets given so far list
  pub list_whole : (a b c : ReaderState S) (es : List (ℕ × X)) (p : TakesItems r a es b) (g : List ℕ) → OnlyOpen b.ending g c.ending → (l : Listing X C) →
      listing r b.settled c.ending b.taken (b.held ++ g ++ []) ≡ l → listing r a.settled c.ending a.taken (a.held ++ (p.given ++ g)) ≡ put_items es l
  list_whole a b c es p g o l h =
      ap (listing r a.settled c.ending a.taken) (sym (append-nil (a.held ++ (p.given ++ g))))
      ∙ after_items a b c es p g o [] c.ending (CanFollow-none c.ending) ∙ ap (put_items es) h

  -- the octets that were given for several items and an answer
  pub gives_both : (a b c : ReaderState S) (es : List (ℕ × X)) (answer : Answer X C) (p : TakesItems r a es b) (q : AnswersItem r b answer c) → GivesOctets a.left c.left (p.given ++ q.given)
  gives_both a b c es answer p q = Gives-append _ _ _ _ _ p.took (gives_of answer _ _ _ q.source.took)
