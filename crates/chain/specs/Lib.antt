-- SPDX-License-Identifier: Apache-2.0 AND BSD-3-Clause
pub mod Sequence
pub mod Steps
pub mod Walk
pub mod Links
pub mod Right
pub mod Stable
pub mod Laying
pub mod ListOf
pub mod Worked
