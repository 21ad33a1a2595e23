pub mod FindMap
