-- SPDX-License-Identifier: Apache-2.0 AND BSD-3-Clause
-- What the contracts of the replay cite. Assumes nothing.
pub mod Outcome
