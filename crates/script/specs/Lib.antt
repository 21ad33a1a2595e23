-- SPDX-License-Identifier: Apache-2.0 AND BSD-3-Clause
pub mod Text
pub mod Words
pub mod WordFacts
pub mod Numbers
pub mod Commands
pub mod Crc
pub mod Xor
pub mod CrcTable
pub mod Examples
