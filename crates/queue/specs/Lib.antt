-- SPDX-License-Identifier: Apache-2.0 AND BSD-3-Clause
-- The definitions that the contracts of the queue cite, their laws, and the theorems about them.
pub mod Cases
pub mod State
pub mod Wrap
pub mod Size
pub mod Config
pub mod Avail
pub mod Used
pub mod Notify
pub mod Proper
pub mod Pass
pub mod Worked
