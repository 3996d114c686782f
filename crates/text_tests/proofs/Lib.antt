mod ProofEnds
mod CertificateEnds
