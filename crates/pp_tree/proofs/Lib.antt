mod Highs
