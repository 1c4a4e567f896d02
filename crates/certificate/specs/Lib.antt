pub mod CertificateJudged
pub mod HeadLaws
pub mod Labels
pub mod Refuting
