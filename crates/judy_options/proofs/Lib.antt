mod FormatLemmas
