-- How many octets the written form of a frame has.
use Rattle.std.proofs.Common.{◌≡◌, ℕ, ◌+◌, List, ◌++◌, length, refl}
use Rattle.byteorder.specs.Numbers.{length-bytes_high_first}
use Rattle.pdu_core.proofs.GooseSizes.{joined}
use Rattle.frame_core.specs.Apdu.{ether_type_of}
use Rattle.frame_core.specs.Written.{written_apdu, written_frame, written_head, written_tag, written_word}
use Rattle.frame_core.specs.declared.frame.Frame.{Frame}

word_size : (n : ℕ) → length (written_word n) ≡ 2
word_size n = length-bytes_high_first 2 n

-- a word, and what stands behind it
behind_word : (n : ℕ) (rest : List ℕ) (size : ℕ) → length rest ≡ size → length (written_word n ++ rest) ≡ 2 + size
behind_word n rest size is = joined (written_word n) rest 2 size (word_size n) is

-- what stands before an APDU
head_size : {A : Type 0} (f : Frame A) (size : ℕ) → length (written_head f size) ≡ length f.destination + (length f.source + (length (written_tag f.tag) + 10))
head_size f size =
    let reserved = written_word f.reserved1 ++ written_word f.reserved2 in
    let from_length = written_word (8 + size) ++ reserved in
    let from_id = written_word f.app_id ++ from_length in
    let reserved_is : length reserved ≡ 4 = behind_word f.reserved1 (written_word f.reserved2) 2 (word_size f.reserved2) in
    let words : length (written_word (ether_type_of f.apdu) ++ from_id) ≡ 10 =
    behind_word (ether_type_of f.apdu) from_id 8 (behind_word f.app_id from_length 6 (behind_word (8 + size) reserved 4 reserved_is)) in
    joined f.destination (f.source ++ (written_tag f.tag ++ (written_word (ether_type_of f.apdu) ++ from_id))) _ _ refl
    (joined f.source (written_tag f.tag ++ (written_word (ether_type_of f.apdu) ++ from_id)) _ _ refl
    (joined (written_tag f.tag) (written_word (ether_type_of f.apdu) ++ from_id) _ _ refl words))

-- the whole frame
pub frame_size : {A : Type 0} (f : Frame A) → length (written_frame f) ≡ (length f.destination + (length f.source + (length (written_tag f.tag) + 10))) + (length (written_apdu f.apdu) + length f.trailer)
frame_size f = joined (written_head f (length (written_apdu f.apdu))) (written_apdu f.apdu ++ f.trailer) _ _ (head_size f (length (written_apdu f.apdu))) (joined (written_apdu f.apdu) f.trailer _ _ refl refl)
