-- SPDX-License-Identifier: Apache-2.0 AND BSD-3-Clause
-- CRC-32 as in zlib, bit by bit. Assumes nothing.
use Rattle.std.specs.Prelude.{ℕ, zero, suc, ◌+◌, ◌/◌, ◌%◌, ◌≤◌, ◌<◌, ◌≡◌, refl, cond, List, [], ◌∷◌, ◌++◌, eqb, length, get_or, drop}
use Rattle.std.proofs.Common.{ap, ◌∙◌, add-one, drop_of_length-le, drop-cons}
use Rattle.std.specs.Int.Bits.{bit_xor}

-- the polynomial, its lowest power in the highest bit
abbrev pub polynomial : ℕ
polynomial = 0xEDB88320

-- one bit goes out: the state is shifted right, and the polynomial is added where the bit was set
unfoldable pub bit_out : ℕ → ℕ
bit_out c = cond (eqb (c % 2) 1) (bit_xor polynomial (c / 2)) (c / 2)

-- n bits go out
unfoldable pub bits_out : ℕ → ℕ → ℕ
bits_out zero c = c
bits_out (suc n) c = bits_out n (bit_out c)

-- a byte goes in at the low end, and its eight bits go out
unfoldable pub crc_byte : ℕ → ℕ → ℕ
crc_byte c b = bits_out 8 (bit_xor c b)

-- the bytes go in one after the other
unfoldable pub crc_on : ℕ → List ℕ → ℕ
crc_on c [] = c
crc_on c (b ∷ rest) = crc_on (crc_byte c b) rest

-- the state before the first byte has every bit set
abbrev pub crc_start : ℕ
crc_start = 0xFFFF_FFFF

-- the checksum is the last state with every bit turned over
abbrev pub crc_end : ℕ → ℕ
crc_end c = bit_xor c 0xFFFF_FFFF

-- the checksum of a list of bytes
unfoldable pub crc_of : List ℕ → ℕ
crc_of bytes = crc_end (crc_on crc_start bytes)

-- ---- laws

-- a list in two parts goes in one part after the other
pub crc_on-append : (c : ℕ) (a b : List ℕ) → crc_on c (a ++ b) ≡ crc_on (crc_on c a) b
unfolding crc_on
crc_on-append c [] b = refl
crc_on-append c (x ∷ a) b = crc_on-append (crc_byte c x) a b

-- the empty rest leaves the state as it is
pub crc_on_end : (c i : ℕ) (l : List ℕ) → length l ≤ i → crc_on c (drop i l) ≡ c
unfolding crc_on
crc_on_end c i l h = ap (crc_on c) (drop_of_length-le l h)

-- of any other rest the first byte goes in first
pub crc_on_next : (c i x : ℕ) (l : List ℕ) → i < length l → x ≡ crc_byte c (get_or l i 0) → crc_on c (drop i l) ≡ crc_on x (drop (i + 1) l)
unfolding crc_on
crc_on_next c i x l h e = rw (e, add-one, drop-cons l i 0)

-- the checksum, step by step
pub crc_of_steps : (s m r : ℕ) (l : List ℕ) → s ≡ crc_start → m ≡ crc_on s l → r ≡ crc_end m → r ≡ crc_of l
unfolding crc_of
crc_of_steps s m r l hs hm hr = hr ∙ ap crc_end (hm ∙ ap (λ (x : ℕ). crc_on x l) hs)
