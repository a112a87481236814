-- What a reader that reads ahead has at hand is the front of what it has left.
use Rattle.std.proofs.Common.{◌≡◌, ℕ, ◌≤◌, ◌==◌, Bool, true, false, if◌then◌else◌, List, ◌++◌, Option, Some, None, length, take, drop, ◌∙◌, sym, ap, refl}
use Rattle.std.proofs.lemmas.List.{length-take-le, take-append-drop, take-append-le}
use Rattle.std.specs.Io.KnownBytes.{Consumes, prepend_known}
use Rattle.std.specs.Io.BufRead.{DropsConsumable}
use Rattle.std.specs.Io.Buffered.{reader_buffer, reader_remaining, reader_capacity}
use Rattle.std.specs.declared.io.buffered.BufReader.{BufReader}
use Rattle.list_core.specs.Device.{ConsumesSome, IsFront}

front : (held : List ℕ) (known new : Option (List ℕ)) (n : ℕ) → n ≤ length held → DropsConsumable (prepend_known held known) new (Some (length held)) n
    → Consumes (prepend_known held known) new (take n held)
front held None new n h d = tt
front held (Some xs) new n h d = rw (d h) (sym (take-append-drop n (held ++ xs)) ∙ ap (λ l. l ++ drop n (held ++ xs)) (take-append-le n held xs h))

front_where : (b : Bool) (held : List ℕ) (known new : Option (List ℕ)) (n : ℕ) → n ≤ length held
    → DropsConsumable (if b then None else prepend_known held known) new (Some (length held)) n
    → Consumes (if b then None else prepend_known held known) new (take n held)
front_where true held known new n h d = tt
front_where false held known new n h d = front held known new n h d

is_front : (b : Bool) (held : List ℕ) (known : Option (List ℕ)) → IsFront (if b then None else prepend_known held known) held
is_front true held known = tt
is_front false held None = tt
is_front false held (Some xs) = (xs, refl)

module _ {T A : Type 0} (remaining : T → Option (List ℕ)) (r : BufReader T A) where
  pub IsFront-at_hand : IsFront (reader_remaining remaining r) (reader_buffer r)
  IsFront-at_hand = is_front (reader_capacity r == 0) (reader_buffer r) (remaining r.inner)

  pub ConsumesSome-at_hand : (new : Option (List ℕ)) (n : ℕ) → n ≤ length (reader_buffer r) → DropsConsumable (reader_remaining remaining r) new (Some (length (reader_buffer r))) n → ConsumesSome (reader_remaining remaining r) new n
  ConsumesSome-at_hand new n h d = (take n (reader_buffer r), length-take-le n (reader_buffer r) h, front_where (reader_capacity r == 0) (reader_buffer r) (remaining r.inner) new n h d)
