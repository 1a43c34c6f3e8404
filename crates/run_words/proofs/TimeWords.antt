-- A time is spelled by one number of each unit.
use Rattle.std.proofs.Common.{◌≡◌, ℕ, ◌+◌, ◌^◌, ◌<◌, ◌||◌, Bool, true, false, not, List, [], ◌∷◌, ◌++◌, codes, decimal, length, take, drop, Option, Some, None, is_some, refl, sym, ap, ap₂, subst, ◌∙◌, append_assoc, length-append, arith}
use Rattle.std.specs.Char.{is_ascii_digit}
use Rattle.std.specs.List.{list_all, before_first}
use Rattle.std.specs.Option.{IfSome, IfNone}
use Rattle.std.specs.Str.{bytes_eq}
use Rattle.std.specs.Str.Parse.{AllDigits}
use Rattle.std.proofs.lemmas.Bool.{and_from, and_parts, not-true}
use Rattle.std.proofs.lemmas.Fmt.{decimal_is_IsNumeral, decimal_injective, decimal_nonempty}
use Rattle.std.proofs.lemmas.List.{append-nil, append_cancel_left, take-append-drop}
use Rattle.std.proofs.Math.Seq.{take-append_seam, drop-append_seam}
use Rattle.std.proofs.lemmas.Slice.Eq.{bytes_eq-Decides}
use Rattle.std.proofs.lemmas.Str.Parse.{digit_from_value}
use Rattle.run_words.specs.declared.time.Time.{Time}
use Rattle.run_words.specs.Times.{part, spelling, millis_of, IsShort, Spells, IsTime, IsLetters, IsAfterUnit}
use Rattle.run_words.proofs.Numbers.{not_true_and_false}
use Rattle.run_words.proofs.SizeWords.{is_other, digit_is, BeginsOther, number_front}
use Rattle.run_words.proofs.Spelling.{heads, tails}

-- nothing, or what begins with a byte that doesn't pass
abbrev Stops : (ℕ → Bool) → List ℕ → Type 0
Stops test [] = Unit {0}
Stops test (byte ∷ bytes) = test byte ≡ false

-- bytes that pass, and then none that does: they end at one place alone
same_run : (test : ℕ → Bool) (xs ys a b : List ℕ) → list_all test xs ≡ true → list_all test ys ≡ true
    → Stops test a → Stops test b → xs ++ a ≡ ys ++ b → (xs ≡ ys) × (a ≡ b)
same_run test [] [] a b p q s t e = (refl, e)
same_run test [] (y ∷ ys) [] b p q s t e = cc
same_run test [] (y ∷ ys) (x ∷ a) b p q s t e = absurd (not_true_and_false (test x)
    (ap test (heads x y a (ys ++ b) e) ∙ (and_parts (test y) (list_all test ys) q).0) s)
same_run test (x ∷ xs) [] a [] p q s t e = cc
same_run test (x ∷ xs) [] a (y ∷ b) p q s t e = absurd (not_true_and_false (test y)
    (ap test (sym (heads x y (xs ++ a) b e)) ∙ (and_parts (test x) (list_all test xs) p).0) t)
same_run test (x ∷ xs) (y ∷ ys) a b p q s t e =
    let more = same_run test xs ys a b (and_parts (test x) (list_all test xs) p).1
    (and_parts (test y) (list_all test ys) q).1 s t (tails x y (xs ++ a) (ys ++ b) e) in
    (ap₂ (λ c l. c ∷ l) (heads x y (xs ++ a) (ys ++ b) e) more.0, more.1)

digits_pass : (digits : List ℕ) → AllDigits 10 digits → list_all is_ascii_digit digits ≡ true
digits_pass [] all = refl
digits_pass (c ∷ digits) all = and_from (is_ascii_digit c) (list_all is_ascii_digit digits)
    (digit_passes c (digit_is c (digit_from_value c all.0))) (digits_pass digits all.1)
  where
    twice : (b : Bool) → not (not b) ≡ true → b ≡ true
    twice true p = refl
    twice false p = cc

    digit_passes : (c : ℕ) → not (is_other c) ≡ true → is_ascii_digit c ≡ true
    digit_passes c p = twice (is_ascii_digit c) p

number_passes : (n : ℕ) → n < 2 ^ 64 → list_all is_ascii_digit (decimal n) ≡ true
number_passes n small = digits_pass (decimal n) (decimal_is_IsNumeral n small).0.1

letters_pass : (unit : List ℕ) → IsLetters unit → list_all is_other unit ≡ true
letters_pass [] h = absurd h
letters_pass (c ∷ unit) h = h

letters_stop : (unit rest : List ℕ) → IsLetters unit → Stops is_ascii_digit (unit ++ rest)
letters_stop [] rest h = absurd h
letters_stop (c ∷ unit) rest h = not-true (is_ascii_digit c) (and_parts (is_other c) (list_all is_other unit) h).0

letters_begin : (unit later : List ℕ) → IsLetters unit → BeginsOther (unit ++ later)
letters_begin [] later h = absurd h
letters_begin (c ∷ unit) later h = (and_parts (is_other c) (list_all is_other unit) h).0

after_stops : (rest : List ℕ) → IsAfterUnit rest → Stops is_other rest
after_stops [] h = tt
after_stops (c ∷ rest) h = ap not h

pub wide : (n : ℕ) → n < 10 ^ 12 → n < 2 ^ 64
wide n small = omega arith

apart : (xs ys : List ℕ) → bytes_eq xs ys ≡ false → xs ≡ ys → ⊥
apart xs ys differs e = not_true_and_false (bytes_eq xs ys) ((bytes_eq-Decides xs ys).1 e) differs

-- a number and its unit in front of a word are one number and one unit
same_lead : (n m : ℕ) (unit other a b : List ℕ) → n < 10 ^ 12 → m < 10 ^ 12 → IsLetters unit → IsLetters other
    → IsAfterUnit a → IsAfterUnit b → part (Some n) unit ++ a ≡ part (Some m) other ++ b
    → (n ≡ m) × (unit ≡ other) × (a ≡ b)
same_lead n m unit other a b small low p q s t e =
    let fits = wide n small in
    let fits' = wide m low in
    let digits = same_run is_ascii_digit (decimal n) (decimal m) (unit ++ a) (other ++ b) (number_passes n fits)
    (number_passes m fits') (letters_stop unit a p) (letters_stop other b q)
    (sym (append_assoc (decimal n) unit a) ∙ e ∙ append_assoc (decimal m) other b) in
    let letters = same_run is_other unit other a b (letters_pass unit p) (letters_pass other q) (after_stops a s)
    (after_stops b t) digits.1 in
    (decimal_injective n m fits fits' digits.0, letters.0, letters.1)

-- no number with this unit stands in front of the word
abbrev pub Lacks : List ℕ → List ℕ → Type 0
Lacks unit word = (n : ℕ) (later : List ℕ) → n < 10 ^ 12 → IsAfterUnit later → word ≡ part (Some n) unit ++ later → ⊥

lacks_end : (unit : List ℕ) → Lacks unit []
lacks_end unit n later small after e = absurd (omega (
  arith,
  ap length e,
  length-append (decimal n ++ unit) later,
  length-append (decimal n) unit,
  decimal_nonempty n (wide n small),
))

lacks_part : (unit other rest : List ℕ) (number : Option ℕ) → IsLetters unit → IsLetters other
    → bytes_eq unit other ≡ false → IsShort number → IsAfterUnit rest → Lacks unit rest
    → Lacks unit (part number other ++ rest)
lacks_part unit other rest None p q differ short after lacks = lacks
lacks_part unit other rest (Some m) p q differ short after lacks = λ n later small behind e.
    apart unit other differ (same_lead n m unit other later rest small short p q behind after (sym e)).1

begins_digit : (digits rest : List ℕ) → 0 < length digits → AllDigits 10 digits → IsAfterUnit (digits ++ rest)
begins_digit [] rest some all = absurd (omega arith)
begins_digit (c ∷ digits) rest some all =
    (and_parts (is_ascii_digit c) (list_all is_ascii_digit digits) (digits_pass (c ∷ digits) all)).0

after_part : (unit rest : List ℕ) (number : Option ℕ) → IsShort number → IsAfterUnit rest
    → IsAfterUnit (part number unit ++ rest)
after_part unit rest None short after = after
after_part unit rest (Some n) short after =
    let digits = (decimal_is_IsNumeral n (wide n short)).0 in
    subst IsAfterUnit (sym (append_assoc (decimal n) unit rest))
    (begins_digit (decimal n) (unit ++ rest) digits.0 digits.1)

-- the front of a word, as far as this unit
pub record IsPart (word unit : List ℕ) (number : Option ℕ) (rest : List ℕ) : Type 0 where
  pub parts : word ≡ part number unit ++ rest
  pub short : IsShort number
  pub after : IfSome number (λ n. IsAfterUnit rest)
  pub none : IfNone number (Lacks unit word)

same_part_by : (word unit rest w : List ℕ) (a b : Option ℕ) → word ≡ part a unit ++ rest → IsShort a
    → IfSome a (λ n. IsAfterUnit rest) → IfNone a (Lacks unit word) → IsShort b → IsLetters unit → IsAfterUnit w
    → Lacks unit w → word ≡ part b unit ++ w → (a ≡ b) × (rest ≡ w)
same_part_by word unit rest w None None parts short after none low p behind lacks e = (refl, sym parts ∙ e)
same_part_by word unit rest w None (Some m) parts short after none low p behind lacks e =
    absurd (none m w low behind e)
same_part_by word unit rest w (Some n) None parts short after none low p behind lacks e =
    absurd (lacks n rest short after (sym e ∙ parts))
same_part_by word unit rest w (Some n) (Some m) parts short after none low p behind lacks e =
    let same = same_lead n m unit unit rest w short low p p after behind (sym parts ∙ e) in
    (ap Some same.0, same.2)

same_part : (word unit rest w : List ℕ) (a b : Option ℕ) → IsPart word unit a rest → IsShort b → IsLetters unit
    → IsAfterUnit w → Lacks unit w → word ≡ part b unit ++ w → (a ≡ b) × (rest ≡ w)
same_part word unit rest w a b read short p behind lacks e = same_part_by word unit rest w a b read.parts
    read.short read.after read.none short p behind lacks e

-- the digits of a word, and what stands behind them, where a number with this unit stands in front
pub front_is : (word digits letters unit later : List ℕ) (n : ℕ) → digits ≡ before_first is_other word
    → word ≡ digits ++ letters → IsLetters unit → n < 10 ^ 12 → word ≡ part (Some n) unit ++ later
    → (digits ≡ decimal n) × (letters ≡ unit ++ later)
front_is word digits letters unit later n front parts p small e =
    let spelled = e ∙ append_assoc (decimal n) unit later in
    let number = front ∙ ap (before_first is_other) spelled
    ∙ number_front n (unit ++ later) (wide n small) (letters_begin unit later p) in (
      number,
      append_cancel_left (decimal n) letters (unit ++ later)
          (ap (λ d. d ++ letters) (sym number) ∙ sym parts ∙ spelled),
    )

-- letters that this unit stands in front of
pub has_prefix : (letters unit later : List ℕ) → letters ≡ unit ++ later
    → bytes_eq (take (length unit) letters) unit ≡ true
has_prefix letters unit later e = (bytes_eq-Decides (take (length unit) letters) unit).1
    (ap (take (length unit)) e ∙ take-append_seam unit later)

pub no_prefix : (letters unit later : List ℕ) → bytes_eq (take (length unit) letters) unit ≡ false
    → letters ≡ unit ++ later → ⊥
no_prefix letters unit later differs e = not_true_and_false (bytes_eq (take (length unit) letters) unit)
    (has_prefix letters unit later e) differs

pub rest_is : (letters unit rest later : List ℕ) → rest ≡ drop (length unit) letters → letters ≡ unit ++ later
    → rest ≡ later
rest_is letters unit rest later is e = is ∙ ap (drop (length unit)) e ∙ drop-append_seam unit later

pub stripped : (letters unit rest : List ℕ) → bytes_eq (take (length unit) letters) unit ≡ true
    → rest ≡ drop (length unit) letters → letters ≡ unit ++ rest
stripped letters unit rest same is = sym (take-append-drop (length unit) letters)
    ∙ ap₂ (λ a b. a ++ b) ((bytes_eq-Decides (take (length unit) letters) unit).0 same) (sym is)

pub same_number : (n m : ℕ) (digits : List ℕ) → n < 2 ^ 64 → m < 10 ^ 12 → digits ≡ decimal n → digits ≡ decimal m
    → n ≡ m
same_number n m digits small low is e = decimal_injective n m small (wide m low) (sym is ∙ e)

-- what a time spells behind each unit
abbrev behind_seconds : Time → List ℕ
behind_seconds time = part time.millis (codes "ms") ++ []

abbrev behind_minutes : Time → List ℕ
behind_minutes time = part time.seconds (codes "s") ++ behind_seconds time

abbrev behind_hours : Time → List ℕ
behind_hours time = part time.minutes (codes "m") ++ behind_minutes time

regrouped : (a b c d : List ℕ) → a ++ b ++ c ++ d ≡ a ++ (b ++ (c ++ (d ++ [])))
regrouped a b c d = simp (append_assoc, append-nil)

spelling_is : (time : Time) → spelling time ≡ part time.hours (codes "h") ++ behind_hours time
spelling_is time = regrouped (part time.hours (codes "h")) (part time.minutes (codes "m"))
    (part time.seconds (codes "s")) (part time.millis (codes "ms"))

record Behinds (time : Time) : Type 0 where
  seconds : IsAfterUnit (behind_seconds time)
  minutes : IsAfterUnit (behind_minutes time)
  hours : IsAfterUnit (behind_hours time)
  no_seconds : Lacks (codes "s") (behind_seconds time)
  no_minutes : Lacks (codes "m") (behind_minutes time)
  no_hours : Lacks (codes "h") (behind_hours time)

behinds : (word : List ℕ) (time : Time) → Spells word time → Behinds time
behinds word time spells =
    let seconds = after_part (codes "ms") [] time.millis spells.millis tt in
    let minutes = after_part (codes "s") (behind_seconds time) time.seconds spells.seconds seconds in
    let hours = after_part (codes "m") (behind_minutes time) time.minutes spells.minutes minutes in
    let no_m = lacks_part (codes "m") (codes "ms") [] time.millis refl refl refl spells.millis tt
    (lacks_end (codes "m")) in
    let no_h = lacks_part (codes "h") (codes "ms") [] time.millis refl refl refl spells.millis tt
    (lacks_end (codes "h")) in
    let no_h_in_seconds = lacks_part (codes "h") (codes "s") (behind_seconds time) time.seconds refl refl refl
    spells.seconds seconds no_h in
    record {
      seconds = seconds;
      minutes = minutes;
      hours = hours;
      no_seconds = lacks_part (codes "s") (codes "ms") [] time.millis refl refl refl spells.millis tt
          (lacks_end (codes "s"));
      no_minutes = lacks_part (codes "m") (codes "s") (behind_seconds time) time.seconds refl refl refl
          spells.seconds seconds no_m;
      no_hours = lacks_part (codes "h") (codes "m") (behind_minutes time) time.minutes refl refl refl
          spells.minutes minutes no_h_in_seconds;
    }

-- a word that was read unit by unit
pub record IsRead (word : List ℕ) (time : Time) (rest : List ℕ) : Type 0 where
  pub hours_rest : List ℕ
  pub minutes_rest : List ℕ
  pub seconds_rest : List ℕ
  pub hours : IsPart word (codes "h") time.hours hours_rest
  pub minutes : IsPart hours_rest (codes "m") time.minutes minutes_rest
  pub seconds : IsPart minutes_rest (codes "s") time.seconds seconds_rest
  pub millis : IsPart seconds_rest (codes "ms") time.millis rest

abbrev made : Option ℕ → Option ℕ → Option ℕ → Option ℕ → Time
made hours minutes seconds millis =
    record { hours = hours; minutes = minutes; seconds = seconds; millis = millis }

-- it is what each time that the word spells says, and nothing is left of the word
pub same_read : (word rest : List ℕ) (a b : Time) → IsRead word a rest → Spells word b → (a ≡ b) × (rest ≡ [])
same_read word rest a b read spells =
    let behind = behinds word b spells in
    let hours = same_part word (codes "h") read.hours_rest (behind_hours b) a.hours b.hours read.hours spells.hours
    refl behind.hours behind.no_hours (spells.spelled ∙ spelling_is b) in
    let minutes = same_part read.hours_rest (codes "m") read.minutes_rest (behind_minutes b) a.minutes b.minutes
    read.minutes spells.minutes refl behind.minutes behind.no_minutes hours.1 in
    let seconds = same_part read.minutes_rest (codes "s") read.seconds_rest (behind_seconds b) a.seconds b.seconds
    read.seconds spells.seconds refl behind.seconds behind.no_seconds minutes.1 in
    let millis = same_part read.seconds_rest (codes "ms") rest [] a.millis b.millis read.millis spells.millis refl
    tt (lacks_end (codes "ms")) seconds.1 in (
      ap₂ (λ h m. made h m a.seconds a.millis) hours.0 minutes.0
          ∙ ap₂ (λ s ms. made b.hours b.minutes s ms) seconds.0 millis.0,
      millis.1,
    )

part_of : (unit rest : List ℕ) (number : Option ℕ) → IsShort number → IsAfterUnit rest → Lacks unit rest
    → IsPart (part number unit ++ rest) unit number rest
part_of unit rest None short after lacks = record { parts = refl; short = tt; after = tt; none = lacks }
part_of unit rest (Some n) short after lacks = record { parts = refl; short = short; after = after; none = tt }

-- a word that spells a time is read as it
reads : (word : List ℕ) (time : Time) → Spells word time → IsRead word time []
reads word time spells =
    let behind = behinds word time spells in
    record {
      hours_rest = behind_hours time;
      minutes_rest = behind_minutes time;
      seconds_rest = behind_seconds time;
      hours = subst (λ w. IsPart w (codes "h") time.hours (behind_hours time))
          (sym (spells.spelled ∙ spelling_is time))
          (part_of (codes "h") (behind_hours time) time.hours spells.hours behind.hours behind.no_hours);
      minutes = part_of (codes "m") (behind_minutes time) time.minutes spells.minutes behind.minutes behind.no_minutes;
      seconds = part_of (codes "s") (behind_seconds time) time.seconds spells.seconds behind.seconds behind.no_seconds;
      millis = part_of (codes "ms") [] time.millis spells.millis tt (lacks_end (codes "ms"));
    }

filled : (number : Option ℕ) (unit : List ℕ) → IsShort number → is_some number ≡ true → 0 < length (part number unit)
filled None unit short some = cc
filled (Some n) unit short some = omega (arith, length-append (decimal n) unit, decimal_nonempty n (wide n short))

either : (a b c d : Bool) (n : ℕ) → (a ≡ true → 0 < n) → (b ≡ true → 0 < n) → (c ≡ true → 0 < n)
    → (d ≡ true → 0 < n) → (a || b || c || d) ≡ true → 0 < n
either true b c d n p q r s some = p refl
either false true c d n p q r s some = q refl
either false false true d n p q r s some = r refl
either false false false d n p q r s some = s some

-- a time has a byte at least
pub not_empty : (word : List ℕ) (time : Time) → Spells word time → 0 < length word
not_empty word time spells =
    let hours = part time.hours (codes "h") in
    let minutes = part time.minutes (codes "m") in
    let seconds = part time.seconds (codes "s") in
    let millis = part time.millis (codes "ms") in
    let all : length word ≡ length hours + length minutes + length seconds + length millis =
    ap length spells.spelled
    ∙ omega (
      arith,
      length-append (hours ++ minutes ++ seconds) millis,
      length-append (hours ++ minutes) seconds,
      length-append hours minutes,
    ) in
    either (is_some time.hours) (is_some time.minutes) (is_some time.seconds) (is_some time.millis) (length word)
    (λ some. omega (arith, all, filled time.hours (codes "h") spells.hours some))
    (λ some. omega (arith, all, filled time.minutes (codes "m") spells.minutes some))
    (λ some. omega (arith, all, filled time.seconds (codes "s") spells.seconds some))
    (λ some. omega (arith, all, filled time.millis (codes "ms") spells.millis some))
    spells.some

-- a word spells one time
pub same_time : (word : List ℕ) (a b : Time) → Spells word a → Spells word b → a ≡ b
same_time word a b p q = (same_read word [] a b (reads word a p) q).0

-- a word is a time of one value
pub same_millis : (word : List ℕ) (x y : ℕ) → IsTime word x → IsTime word y → x ≡ y
same_millis word x y p q = p.value ∙ ap millis_of (same_time word p.time q.time p.spells q.spells) ∙ sym q.value
