-- SPDX-License-Identifier: Apache-2.0 AND BSD-3-Clause
-- The split descriptor (VIRTIO 1.2, 2.7.5) and the used element (2.7.8), in bytes and in guest memory.
use Rattle.std.specs.Prelude.{ℕ, ◌+◌, ◌*◌, ◌/◌, ◌%◌, ◌^◌, ◌<◌, ◌≡◌, Bool, true, Option, Some, None, List, ◌++◌, length, eqb, not, bit_and}
use Rattle.std.proofs.Common.{arith, ◌∙◌, add-zero, append_assoc, pow_pos, ◌≤◌}
use Rattle.std.proofs.lemmas.Nat.Bits.{and_pow}
use Rattle.std.proofs.lemmas.Bool.Decides.{nat_tests}
use Rattle.std.proofs.Math.Path.{refl, ap}
use Rattle.wire.specs.Number.{number, bytes, Bytes, number-bytes, bytes-part}
use Rattle.wire.specs.Part.{Apart, part, part-part, part-add, part_all}
use Rattle.regions.specs.Table.{pick, Table, Good}
use Rattle.memory.specs.Access.{readable, writable, bytes_at, after, read_of, read_is, Agree, read_agree, after-length, bytes_apart, bytes_back, writable-readable}
use Rattle.desc.specs.declared.Descriptor.{Descriptor}
use Rattle.desc.specs.declared.UsedElem.{UsedElem}

-- ---- the descriptor (2.7.5): addr le64, len le32, flags le16, next le16
abbrev pub descriptor : ℕ → ℕ → ℕ → ℕ → Descriptor
descriptor a l f n = record { addr = a; len = l; flags = f; next = n }

abbrev pub desc_of : List ℕ → Descriptor
desc_of bs = descriptor (number (part bs 0 8)) (number (part bs 8 4)) (number (part bs 12 2)) (number (part bs 14 2))

abbrev pub desc_bytes : Descriptor → List ℕ
desc_bytes d = bytes 8 d.addr ++ bytes 4 d.len ++ bytes 2 d.flags ++ bytes 2 d.next

-- flags bit 0, NEXT: the chain goes on at next; bit 1, WRITE: the device writes the element; bit 2, INDIRECT: it is a table
abbrev pub has_next : Descriptor → Bool
has_next d = eqb (d.flags % 2) 1

abbrev pub is_write_only : Descriptor → Bool
is_write_only d = eqb (d.flags / 2 % 2) 1

abbrev pub is_indirect : Descriptor → Bool
is_indirect d = eqb (d.flags / 4 % 2) 1

-- ---- the used element (2.7.8): id le32, len le32
abbrev pub used_bytes : ℕ → ℕ → List ℕ
used_bytes id n = bytes 4 id ++ bytes 4 n

abbrev pub used_of : List ℕ → UsedElem
used_of bs = record { id = number (part bs 0 4); len = number (part bs 4 4) }

-- ---- lengths, and a part of the slice
pub length-desc_bytes : (d : Descriptor) → length (desc_bytes d) ≡ 16
length-desc_bytes d = refl

pub length-used_bytes : (id n : ℕ) → length (used_bytes id n) ≡ 8
length-used_bytes id n = refl

-- ---- a flag is the bit under its mask
masked : (b m : ℕ) → b < 2 → 0 < m → not (eqb (b * m) 0) ≡ eqb b 1
masked b m h z = grind (arith, nat_tests)

pub flag : (n k : ℕ) → not (eqb (bit_and n (2 ^ k)) 0) ≡ eqb (n / 2 ^ k % 2) 1
flag n k = rw and_pow (masked (n / 2 ^ k % 2) (2 ^ k) (omega arith) (pow_pos k))

-- ---- in a slice
pub desc_part : (l : List ℕ) (i : ℕ) → i + 16 ≤ length l → desc_of (part l i 16) ≡ descriptor (number (part l i 8)) (number (part l (i + 8) 4)) (number (part l (i + 12) 2)) (number (part l (i + 14) 2))
desc_part l i h =
    cc (part-part l i 16 0 8 (omega arith) h, add-zero i, part-part l i 16 8 4 (omega arith) h, part-part l i 16 12 2 (omega arith) h, part-part l i 16 14 2 (omega arith) h)

pub used_part : (l : List ℕ) (i : ℕ) → i + 8 ≤ length l → used_of (part l i 8) ≡ record { id = number (part l i 4); len = number (part l (i + 4) 4) }
used_part l i h = cc (part-part l i 8 0 4 (omega arith) h, add-zero i, part-part l i 8 4 4 (omega arith) h)

-- ---- round trips
-- the fields fit their widths, as those of a value of the program do
pub record FitsDesc (d : Descriptor) : Type 0 where
  pub addr : d.addr < 2 ^ 64
  pub len : d.len < 2 ^ 32
  pub flags : d.flags < 2 ^ 16
  pub next : d.next < 2 ^ 16

same : {a b l k f g n m : ℕ} → a ≡ b → l ≡ k → f ≡ g → n ≡ m → descriptor a l f n ≡ descriptor b k g m
same p q r s = cc

pub desc_of-desc_bytes : (d : Descriptor) → FitsDesc d → desc_of (desc_bytes d) ≡ d
desc_of-desc_bytes d h =
    same (number-bytes 8 d.addr h.addr) (number-bytes 4 d.len h.len) (number-bytes 2 d.flags h.flags) (number-bytes 2 d.next h.next)

join : {a b c d x y z w : List ℕ} → a ≡ x → b ≡ y → c ≡ z → d ≡ w → a ++ b ++ c ++ d ≡ x ++ y ++ z ++ w
join p q r s = cc

glue : (a b c d l x y z : List ℕ) → z ≡ c ++ d → y ≡ b ++ z → x ≡ a ++ y → x ≡ l → a ++ b ++ c ++ d ≡ l
glue a b c d l x y z p q r s = simp append_assoc (cc)

-- and sixteen bytes are those of their descriptor
pub desc_bytes-desc_of : (bs : List ℕ) → length bs ≡ 16 → Bytes bs → desc_bytes (desc_of bs) ≡ bs
desc_bytes-desc_of bs e h =
    let low : part bs 12 4 ≡ part bs 12 2 ++ part bs 14 2 = part-add bs 12 2 2 in
    let high : part bs 8 8 ≡ part bs 8 4 ++ part bs 12 4 = part-add bs 8 4 4 in
    let all : part bs 0 16 ≡ part bs 0 8 ++ part bs 8 8 = part-add bs 0 8 8 in
    join (bytes-part bs 0 8 h (omega arith)) (bytes-part bs 8 4 h (omega arith)) (bytes-part bs 12 2 h (omega arith)) (bytes-part bs 14 2 h (omega arith))
    ∙ glue (part bs 0 8) (part bs 8 4) (part bs 12 2) (part bs 14 2) bs (part bs 0 16) (part bs 8 8) (part bs 12 4) low high all (part_all bs 16 e)

-- ---- in guest memory
-- the descriptor in the 16 bytes at guest address a
unfoldable pub desc_at : Table → List ℕ → ℕ → Option Descriptor
desc_at t m a = read_of 16 desc_of t m a

module _ (t : Table) (m : List ℕ) (a : ℕ) where
  pub desc_read : read_of 16 desc_of t m a ≡ desc_at t m a
  unfolding desc_at
  desc_read = refl

  pub desc_is : desc_at t m a ≡ pick (readable t (length m) a 16) (Some (desc_of (bytes_at t m a 16))) None
  unfolding desc_at
  desc_is = read_is 16 desc_of t m a

-- isolation
pub desc_agree : (t : Table) (m k : List ℕ) → Agree t m k → (a : ℕ) → desc_at t m a ≡ desc_at t k a
unfolding desc_at
desc_agree t m k h a = read_agree t m k h 16 desc_of a

-- a write apart from the descriptor does not change it
pub desc_apart : (t : Table) → Good t → (m : List ℕ) (b : ℕ) (bs : List ℕ) (a : ℕ) → Apart b (length bs) a 16 → desc_at t (after t m b bs) a ≡ desc_at t m a
desc_apart t g m b bs a h = rw (desc_is, desc_is, after-length, bytes_apart t g m b bs a 16 h)

-- a descriptor that was written is read back
pub desc_back : (t : Table) → Good t → (m : List ℕ) (a : ℕ) (d : Descriptor) → FitsDesc d → writable t (length m) a 16 ≡ true → desc_at t (after t m a (desc_bytes d)) a ≡ Some d
desc_back t g m a d f w =
    rw (desc_is, after-length, writable-readable t (length m) a 16 w, bytes_back t g m a (desc_bytes d) w) (ap Some (desc_of-desc_bytes d f))
