-- The number that digits write.
use Rattle.std.proofs.Common.{◌≡◌, ℕ, ◌+◌, ◌-◌, ◌*◌, ◌^◌, ◌<◌, ◌≤◌, true, false, ◌==◌, nat_lt, List, [], ◌∷◌, ◌++◌, length, Ok, decimal, refl, ap, ◌∙◌, arith, rules}
use Rattle.std.specs.Char.{is_ascii_digit}
use Rattle.std.specs.Str.{all_ascii_digits}
use Rattle.std.proofs.lemmas.Str.Parse.{IsNumeralModel, numerals_by_fold, tells_all_ascii_digits}
use Rattle.std.proofs.lemmas.Fmt.{digits_decimal, digits_value-decimal, decimal_nonempty}
use Rattle.std.proofs.lemmas.Bool.{cond-true, and_parts, leb-true, ne_eqb, lt-ltb, and_left}
use Rattle.request.specs.Meaning.{Free, Writes}
use Rattle.request.specs.Numbers.{value_after, value, sized, read_number}
use Rattle.request.specs.Requests.{is_dash}

pub value_push : (n : ℕ) (ds : List ℕ) (d : ℕ) → value_after n (ds ++ d ∷ []) ≡ 10 * value_after n ds + (d - 48)
value_push n [] d = omega arith
value_push n (e ∷ ds) d = value_push (n * 10 + (e - 48)) ds d

pub own : IsNumeralModel (λ ds. all_ascii_digits ds ≡ true) (value_after 0)
own = numerals_by_fold _ tells_all_ascii_digits value_after (search rules)

pub value_plain : (n : ℕ) → n < 2 ^ 32 → Writes (decimal n) n
value_plain n h = (decimal_nonempty n (omega arith), digits_decimal own n (omega arith), digits_value-decimal own n (omega arith), h)

pub zeros_lead : (k : ℕ) (ds : List ℕ) → 0 < length ds → read_number k (48 ∷ ds) ≡ read_number k ds
unfolding read_number
zeros_lead k [] h = absurd (omega arith)
zeros_lead k (d ∷ ds) h = refl

pub writes_read : (k : ℕ) (ds : List ℕ) (n : ℕ) → Writes ds n → read_number k ds ≡ Ok n
unfolding read_number
writes_read k [] n w = absurd (omega arith)
writes_read k (d ∷ ds) n w =
    cond-true (all_ascii_digits (d ∷ ds)) (sized k (value (d ∷ ds))) _ w.1
    ∙ cond-true (nat_lt (value (d ∷ ds)) 4294967296) (Ok (value (d ∷ ds))) _ (lt-ltb _ _ (omega arith)) ∙ ap Ok w.2

digit_from : (b : ℕ) → is_ascii_digit b ≡ true → 48 ≤ b
digit_from b h = leb-true 48 b (and_parts _ _ h).0

pub digits_free : (m : ℕ) (ds : List ℕ) → m < 48 → all_ascii_digits ds ≡ true → Free m ds
digits_free m [] h p = tt
digits_free m (d ∷ ds) h p =
    let q = and_parts (is_ascii_digit d) (all_ascii_digits ds) p in
    let lo : 48 ≤ d = digit_from d q.0 in
    (λ e. omega arith, digits_free m ds h q.1)

pub digits_no_dash : (ds : List ℕ) → 0 < length ds → all_ascii_digits ds ≡ true → is_dash ds ≡ false
digits_no_dash [] h p = absurd (omega arith)
digits_no_dash (d ∷ ds) h p =
    let lo : 48 ≤ d = digit_from d (and_parts (is_ascii_digit d) (all_ascii_digits ds) p).0 in
    and_left (d == 45) _ (ne_eqb d 45 (λ e. omega arith))
