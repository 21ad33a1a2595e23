-- SPDX-License-Identifier: Apache-2.0 AND BSD-3-Clause
-- The queue with other values in some of its ten fields.
use Rattle.std.specs.Prelude.{ℕ, Bool}
use Rattle.queue.specs.declared.Queue.{Queue}
use Rattle.queue.specs.declared.AvailIter.{AvailIter}

-- a queue by its ten fields, in their order
abbrev pub queue : ℕ → ℕ → ℕ → Bool → ℕ → ℕ → Bool → ℕ → ℕ → ℕ → Queue
queue max avail used event added size ready desc availRing usedRing =
    record {
      max_size = max;
      next_avail = avail;
      next_used = used;
      event_idx_enabled = event;
      num_added = added;
      size = size;
      ready = ready;
      desc_table = desc;
      avail_ring = availRing;
      used_ring = usedRing;
    }

-- a pass that remembers idx
abbrev pub pass : ℕ → AvailIter
pass idx = record { last_index = idx }

-- other numbers
abbrev pub numbered : Queue → ℕ → ℕ → ℕ → Queue
numbered q avail used added =
    queue q.max_size avail used q.event_idx_enabled added q.size q.ready q.desc_table q.avail_ring q.used_ring

abbrev pub with_next_avail : Queue → ℕ → Queue
with_next_avail q n = numbered q n q.next_used q.num_added

abbrev pub with_next_used : Queue → ℕ → Queue
with_next_used q n = numbered q q.next_avail n q.num_added

abbrev pub with_added : Queue → ℕ → Queue
with_added q n = numbered q q.next_avail q.next_used n

-- another size, other flags, other addresses
abbrev pub shaped : Queue → Bool → ℕ → Bool → ℕ → ℕ → ℕ → Queue
shaped q event size ready desc avail used =
    queue q.max_size q.next_avail q.next_used event q.num_added size ready desc avail used

abbrev pub with_size : Queue → ℕ → Queue
with_size q n = shaped q q.event_idx_enabled n q.ready q.desc_table q.avail_ring q.used_ring

abbrev pub with_event_idx : Queue → Bool → Queue
with_event_idx q b = shaped q b q.size q.ready q.desc_table q.avail_ring q.used_ring

abbrev pub with_ready : Queue → Bool → Queue
with_ready q b = shaped q q.event_idx_enabled q.size b q.desc_table q.avail_ring q.used_ring

abbrev pub with_desc_table : Queue → ℕ → Queue
with_desc_table q a = shaped q q.event_idx_enabled q.size q.ready a q.avail_ring q.used_ring

abbrev pub with_avail_ring : Queue → ℕ → Queue
with_avail_ring q a = shaped q q.event_idx_enabled q.size q.ready q.desc_table a q.used_ring

abbrev pub with_used_ring : Queue → ℕ → Queue
with_used_ring q a = shaped q q.event_idx_enabled q.size q.ready q.desc_table q.avail_ring a
