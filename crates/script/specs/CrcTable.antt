-- SPDX-License-Identifier: Apache-2.0 AND BSD-3-Clause
-- Eight bits of a CRC state go out at once: the table holds what they turn into. Assumes nothing.
use Rattle.std.specs.Prelude.{ℕ, zero, suc, ◌+◌, ◌*◌, ◌/◌, ◌%◌, ◌^◌, ◌<◌, ◌≡◌, refl, Bool, true, false, cond, List, [], ◌∷◌, eqb, length, get_or}
use Rattle.std.proofs.Common.{sym, ap, ap₂, ◌∙◌, add-zero, zero-add, add-suc, suc-add, mul-one, mod-lt, le_of_suc-le-suc, not-suc-le-zero, arith, pow_pos}
use Rattle.std.proofs.Math.Pow.{split}
use Rattle.std.specs.Int.Bits.{bit_xor, differ, xor_shifted, shifted_half, shifted_even}
use Rattle.std.proofs.lemmas.Nat.{xor_comm}
use Rattle.script.specs.Xor.{xor_half, xor_odd, xor_left_comm}
use Rattle.script.specs.Crc.{polynomial, bit_out, bits_out, crc_byte}

-- ---- bits that stand above those that go out only move down

picked : (t : Bool) (h y : ℕ) → cond t (bit_xor polynomial (bit_xor h y)) (bit_xor h y) ≡ bit_xor h (cond t (bit_xor polynomial y) y)
picked true h y = xor_left_comm polynomial h y
picked false h y = refl

bit_out_high : (h m l : ℕ) → bit_out (bit_xor (h * 2 ^ suc m) l) ≡ bit_xor (h * 2 ^ m) (bit_out l)
unfolding bit_out
bit_out_high h m l =
    ap₂ (λ (r q : ℕ). cond (eqb r 1) (bit_xor polynomial q) q)
    (xor_odd (h * 2 ^ suc m) l ∙ ap (λ (x : ℕ). differ x (l % 2)) (shifted_even h m))
    (xor_half (h * 2 ^ suc m) l ∙ ap (λ (x : ℕ). bit_xor x (l / 2)) (shifted_half h m))
    ∙ picked (eqb (l % 2) 1) (h * 2 ^ m) (l / 2)

bits_out_high : (n h l : ℕ) → bits_out n (bit_xor (h * 2 ^ n) l) ≡ bit_xor h (bits_out n l)
unfolding bits_out
bits_out_high zero h l = ap (λ (x : ℕ). bit_xor x l) (mul-one h)
bits_out_high (suc n) h l = ap (bits_out n) (bit_out_high h n l) ∙ bits_out_high n h (bit_out l)

bits_out_low : (n x : ℕ) → bits_out n x ≡ bit_xor (bits_out n (x % 2 ^ n)) (x / 2 ^ n)
bits_out_low n x =
    ap (bits_out n) (sym (split x n) ∙ sym (xor_shifted (x / 2 ^ n) n (x % 2 ^ n) (mod-lt x (pow_pos n))))
    ∙ bits_out_high n (x / 2 ^ n) (x % 2 ^ n) ∙ xor_comm (x / 2 ^ n) (bits_out n (x % 2 ^ n))

-- ---- the table

-- what f makes of n numbers from i on
unfoldable pub tabled : (ℕ → ℕ) → ℕ → ℕ → List ℕ
tabled f i zero = []
tabled f i (suc n) = f i ∷ tabled f (suc i) n

tabled_at : (f : ℕ → ℕ) (i n k : ℕ) → k < n → get_or (tabled f i n) k 0 ≡ f (i + k)
unfolding tabled
tabled_at f i zero k h = absurd (not-suc-le-zero h)
tabled_at f i (suc n) zero h = ap f (sym (add-zero i))
tabled_at f i (suc n) (suc k) h = tabled_at f (suc i) n k (le_of_suc-le-suc h) ∙ ap f (suc-add i k ∙ sym (add-suc i k))

tabled-length : (f : ℕ → ℕ) (i n : ℕ) → length (tabled f i n) ≡ n
unfolding tabled
tabled-length f i zero = refl
tabled-length f i (suc n) = ap suc (tabled-length f (suc i) n)

-- what eight bits turn into as they go out
unfoldable pub byte_table : List ℕ
byte_table = tabled (bits_out 8) 0 256

pub byte_table-length : (t : List ℕ) → t ≡ byte_table → length t ≡ 256
unfolding byte_table
byte_table-length t e = ap length e ∙ tabled-length (bits_out 8) 0 256

pub by_table : (t : List ℕ) (c b : ℕ) → t ≡ byte_table → bit_xor (get_or t (bit_xor c b % 256) 0) (bit_xor c b / 256) ≡ crc_byte c b
unfolding byte_table crc_byte
by_table t c b e =
    ap (λ (x : ℕ). bit_xor x (bit_xor c b / 256))
    (ap (λ (l : List ℕ). get_or l (bit_xor c b % 256) 0) e ∙ tabled_at (bits_out 8) 0 256 (bit_xor c b % 256) (omega arith)
    ∙ ap (bits_out 8) (zero-add (bit_xor c b % 256)))
    ∙ sym (bits_out_low 8 (bit_xor c b))

-- the laws by which the table is looked up
pub ruleset entries = (byte_table-length, by_table)
