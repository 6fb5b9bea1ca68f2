-- Fields of two bytes, and registers one behind the other.
use Rattle.std.proofs.Common.{◌≡◌, ℕ, suc, ◌+◌, ◌*◌, ◌/◌, ◌%◌, ◌<◌, List, [], ◌∷◌, ◌++◌, length, get_or, refl, ap, ◌∙◌, arith}
use Rattle.std.specs.List.{AllByRecursion}
use Rattle.std.proofs.lemmas.List.{append-nil, length-append}
use Rattle.std.proofs.lemmas.List.Concat.{flat_map-append}
use Rattle.modbus_pdu.specs.Grammar.{IsWord, word, words}

-- a field stands for one number
pub word_injective : (m n : ℕ) → word m ≡ word n → m ≡ n
word_injective m n same =
    let high : m / 256 ≡ n / 256 = cc same in
    let low : m % 256 ≡ n % 256 = cc same in
    omega arith

-- the bytes of a number of two bytes are those two
pub word-read : (high low n : ℕ) → high < 256 → low < 256 → n ≡ 256 * high + low → word n ≡ high ∷ low ∷ []
word-read high low n high_fits low_fits is =
    let first : n / 256 ≡ high = omega arith in
    let second : n % 256 ≡ low = omega arith in
    rw (first, second) refl

-- registers stand for one list of numbers
pub words_injective : (xs ys : List ℕ) → words xs ≡ words ys → xs ≡ ys
words_injective [] [] same = refl
words_injective [] (y ∷ ys) same = cc same
words_injective (x ∷ xs) [] same = cc same
words_injective (x ∷ xs) (y ∷ ys) same =
    let first : word x ≡ word y = cc same in
    let rest : words xs ≡ words ys = cc same in
    let head : x ≡ y = word_injective x y first in
    let tail : xs ≡ ys = words_injective xs ys rest in
    cc (head, tail)

pub length-words : (xs : List ℕ) → length (words xs) ≡ 2 * length xs
length-words [] = refl
length-words (x ∷ xs) =
    let rest = length-words xs in
    omega arith

-- one register more
pub words-push : (xs : List ℕ) (n : ℕ) → words (xs ++ n ∷ []) ≡ words xs ++ word n
words-push xs n = flat_map-append word xs (n ∷ []) ∙ ap (λ (t : List ℕ). words xs ++ t) (append-nil (word n))

pub words_fit-push : (xs : List ℕ) (n : ℕ) → AllByRecursion IsWord xs → IsWord n → AllByRecursion IsWord (xs ++ n ∷ [])
words_fit-push [] n fits word_fits = (word_fits, tt)
words_fit-push (x ∷ xs) n fits word_fits = (fits.0, words_fit-push xs n fits.1 word_fits)

-- numbers that fit at each place fit
pub words_fit : (xs : List ℕ) → ((i : ℕ) → i < length xs → get_or xs i 0 < 65536) → AllByRecursion IsWord xs
words_fit [] fits = tt
words_fit (x ∷ xs) fits = (fits 0 (omega arith), words_fit xs (λ i below. fits (suc i) (omega arith)))

-- how long bytes are with a byte and registers at their end
pub length-pushed : (new old : List ℕ) (n : ℕ) (values : List ℕ) → new ≡ old ++ n ∷ words values → length new ≡ length old + 1 + 2 * length values
length-pushed new old n values is = ap length is ∙ simp (length-append, length-words) (omega arith)

-- bytes of registers behind their byte count, as they lie and as the grammar has them
pub record IsCounted (byte_count : ℕ) (registers values : List ℕ) : Type 0 where
  pub count : byte_count ≡ 2 * length values
  pub spelled : registers ≡ words values
  pub len : length registers ≡ 2 * length values

pub counted : (bytes : List ℕ) (byte_count : ℕ) (registers values : List ℕ) → bytes ≡ byte_count ∷ registers → bytes ≡ (2 * length values) ∷ words values → IsCounted byte_count registers values
counted bytes byte_count registers values lie have =
    let spelled : registers ≡ words values = cc in
    record { count = cc; spelled = spelled; len = ap length spelled ∙ length-words values }
