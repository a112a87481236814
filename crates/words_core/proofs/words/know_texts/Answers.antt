use Rattle.std.proofs.Common.{◌≡◌, ◌∙◌, ◌+◌, ◌<◌, ℕ, List, [], ◌∷◌, ◌++◌, get_or, length, subst, sym, ap, take, take_all}
use Rattle.std.specs.Borrow.{Bor}
use Rattle.std.specs.Str.{IsUtf8}
use Rattle.std.proofs.lemmas.List.{map-append, take_more}
use Rattle.clap.specs.Words.{Text}
use Rattle.clap.specs.Walk.{texts}
use Rattle.words_core.specs.RequestLine.{AreTexts}
use Rattle.words_core.proofs.words.know_texts.Goals as goal

-- texts and one more
one_more : (words : List Text) (word : Text) → AreTexts words → IsUtf8 word → AreTexts (words ++ word ∷ [])
one_more [] word are is = (is, tt)
one_more (x ∷ words) word are is = (are.0, one_more words word are.1 is)

texts_more : (words : List (Bor Text)) (i : ℕ) (d : Bor Text) → i < length words → AreTexts (texts (take i words)) → IsUtf8 (get_or words i d).now → AreTexts (texts (take (i + 1) words))
texts_more words i d inside are is =
    let more : texts (take (i + 1) words) ≡ texts (take i words) ++ (get_or words i d).now ∷ [] =
    ap texts (take_more words i d inside) ∙ map-append (λ (w : Bor Text). w.now) (take i words) (get_or words i d ∷ []) in
    subst AreTexts (sym more) (one_more (texts (take i words)) (get_or words i d).now are is)

pub loop-word-preserved : goal.loop-word-preserved
loop-word-preserved c = texts_more c.args.words.now c.loop-word.word-index _ c.loop-word-test.true c.loop-word.invariant (subst IsUtf8 c.as_bytes-octets.ensures.value c.as_bytes-octets.ensures.utf8)

pub returns : goal.returns
returns c = subst (λ (l : List (Bor Text)). AreTexts (texts l)) (take_all c.loop-word.word-index c.args.words.now c.loop-word-test.false) c.loop-word.invariant
