mod CertificateLemmas
mod HandedLemmas
mod SharingLemmas
