-- Requests of a read in order that double.
use Rattle.std.proofs.Common.{◌≡◌, ℕ, zero, suc, ◌+◌, ◌*◌, ◌^◌, ◌<◌, ◌≤◌, Bool, false, min, List, [], ◌∷◌, length, Some, ◌∙◌, ap, subst, arith, ◌⊎◌, inl, inr}
use Rattle.std.proofs.lemmas.Bool.{cases_lt}
use Rattle.std.proofs.lemmas.Grind.{pow_more}
use Rattle.downloaders.specs.declared.Ask.{Ask}
use Rattle.downloaders.specs.declared.Downloader.{Downloader}
use Rattle.downloaders.specs.declared.Limit.TheVariants.{Off}
use Rattle.downloaders.specs.Orders.{requests_in, AreReads, no_one}
use Rattle.downloaders.proofs.InOrder.{Keeps, reads_from}

-- the size after j doublings
abbrev pub doubled : ℕ → ℕ → ℕ
doubled c zero = c
doubled c (suc j) = 2 * doubled c j

pub doubled_power : (c j : ℕ) → doubled c j ≡ c * 2 ^ j
doubled_power c zero = omega arith
doubled_power c (suc j) =
    let one : suc j ≡ j + 1 = omega arith in
    let power : 2 ^ suc j ≡ 2 ^ j * 2 = ap (λ n. 2 ^ n) one ∙ pow_more 2 j in
    rw power (omega (arith, doubled_power c j))

-- the j-th request ends the object, or it and those before it are full
abbrev pub Doubles : ℕ → ℕ → ℕ → Downloader → Type 0
Doubles size c j d = ((d.end ≡ size) ⊎ ((d.chunk ≡ doubled c j) × (d.end + c ≡ 2 * doubled c j))) × (doubled c j < size + c)

pub doubles_asked : (size c j : ℕ) (d e : Downloader) → size ≤ 1099511627776 → Doubles size c j d → d.end < size → e.chunk ≡ min (2 * d.chunk) 1099511627776 → e.end ≡ min size (d.end + e.chunk) → Doubles size c (suc j) e
doubles_asked size c j d e most (inl q, r) l s t = absurd (omega arith)
doubles_asked size c j d e most (inr q, r) l s t = elim (cases_lt (d.end + e.chunk) size) [
  | inl h ↦ (inr (omega (arith, q.0, s, t), omega (arith, q.0, q.1, s, t)), omega (arith, q.1))
  | inr h ↦ (inl (omega (arith, t)), omega (arith, q.1))
]

pub doubles_first : (size c : ℕ) (e : Downloader) → 0 < size → e.chunk ≡ c → e.end ≡ min size e.chunk → Doubles size c 0 e
doubles_first size c e some s t = elim (cases_lt c size) [
  | inl h ↦ (inr (s, omega (arith, s, t)), omega arith)
  | inr h ↦ (inl (omega (arith, s, t)), omega arith)
]

pub doubles_keeps : (size c : ℕ) → size ≤ 1099511627776 → Keeps (Doubles size c) (record { chunk = Some c; limit = Off }) size
doubles_keeps size c most = record {
  asked = λ j d e q l s t. doubles_asked size c j d e most q l s t;
  pulled = λ j len d q. q;
  first = λ e l s t. doubles_first size c e l s t;
}

pub reads_few : (size c : ℕ) (direct : Bool) (ends : List ℕ) (asks : List Ask) → size ≤ 1099511627776 → 1 ≤ c → AreReads (record { chunk = Some c; limit = Off }) size (λ p. false) (no_one direct) 0 ends asks → c * 2 ^ length (requests_in asks) < 2 * (size + c)
reads_few size c direct [] asks most some x = rw x (omega (arith, doubled_power c 0))
reads_few size c direct (to ∷ later) asks most some x =
    let all = reads_from (Doubles size c) (record { chunk = Some c; limit = Off }) size direct to later asks (doubles_keeps size c most) some x in
    let power = doubled_power c (suc all.1) in
    let low : c * 2 ^ suc all.1 < 2 * (size + c) = omega (arith, power, all.2.1) in
    subst (λ n. c * 2 ^ n < 2 * (size + c)) all.6 low
