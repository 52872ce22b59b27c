-- What the proofs share: Reading, the turns of the loops that read.
mod Reading
