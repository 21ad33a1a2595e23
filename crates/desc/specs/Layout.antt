-- SPDX-License-Identifier: Apache-2.0 AND BSD-3-Clause
-- Where the fields of a split queue of size q stand in guest memory (VIRTIO 1.2, 2.7): guest addresses, from the address of the area.
use Rattle.std.specs.Prelude.{ℕ, ◌+◌, ◌*◌, ◌%◌}

-- ---- the descriptor table (2.7.5): q descriptors of 16 bytes
abbrev pub desc_addr : ℕ → ℕ → ℕ
desc_addr table i = table + 16 * i

abbrev pub desc_table_size : ℕ → ℕ
desc_table_size q = 16 * q

-- ---- the available ring (2.7.6): flags, idx, q entries of 2 bytes, used_event
abbrev pub avail_idx_addr : ℕ → ℕ
avail_idx_addr avail = avail + 2

-- the entry with number n stands at place n modulo q
abbrev pub avail_entry_addr : ℕ → ℕ → ℕ → ℕ
avail_entry_addr avail q n = avail + (4 + 2 * (n % q))

abbrev pub used_event_addr : ℕ → ℕ → ℕ
used_event_addr avail q = avail + (4 + 2 * q)

abbrev pub avail_ring_size : ℕ → ℕ
avail_ring_size q = 6 + 2 * q

-- ---- the used ring (2.7.8): flags, idx, q entries of 8 bytes, avail_event
abbrev pub used_flags_addr : ℕ → ℕ
used_flags_addr used = used + 0

abbrev pub used_idx_addr : ℕ → ℕ
used_idx_addr used = used + 2

-- the entry with number n stands at place n modulo q
abbrev pub used_entry_addr : ℕ → ℕ → ℕ → ℕ
used_entry_addr used q n = used + (4 + 8 * (n % q))

abbrev pub avail_event_addr : ℕ → ℕ → ℕ
avail_event_addr used q = used + (4 + 8 * q)

abbrev pub used_ring_size : ℕ → ℕ
used_ring_size q = 6 + 8 * q
