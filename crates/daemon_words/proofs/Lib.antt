mod MemoryLemmas
mod DaemonLemmas
mod SecretLemmas
