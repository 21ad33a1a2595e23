-- SPDX-License-Identifier: Apache-2.0 AND BSD-3-Clause
pub mod Answers
pub mod Forms
pub mod Found
pub mod Read
