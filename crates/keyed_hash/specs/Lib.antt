pub mod SipHash
