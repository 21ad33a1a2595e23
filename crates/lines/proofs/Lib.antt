-- SPDX-License-Identifier: Apache-2.0 AND BSD-3-Clause
pub mod Road
