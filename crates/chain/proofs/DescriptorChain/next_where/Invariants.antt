-- SPDX-License-Identifier: Apache-2.0 AND BSD-3-Clause
use Rattle.std.proofs.Common.{◌≡◌}
use Rattle.chain.specs.Steps.{filtered_of}
use Rattle.chain.proofs.DescriptorChain.next_where.Given as goal

abbrev pub invariant-loop-d : goal.invariant-loop-d
invariant-loop-d l = filtered_of l.writable l.regions l.mem l.c ≡ filtered_of l.writable l.regions l.mem l.initial.c

abbrev pub decreases-loop-d : goal.decreases-loop-d
decreases-loop-d l = l.c.ttl
