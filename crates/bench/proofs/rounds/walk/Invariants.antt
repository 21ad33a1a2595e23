-- SPDX-License-Identifier: Apache-2.0 AND BSD-3-Clause
use Rattle.bench.proofs.rounds.walk.Given as goal

abbrev pub decreases-loop-d : goal.decreases-loop-d
decreases-loop-d l = l.c.ttl
